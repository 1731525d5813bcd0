-- How many octets pending blocks have.
use Rattle.std.proofs.Common.{◌≡◌, ◌+◌, List, [], ◌∷◌, ◌++◌, length, sym, arith}
use Rattle.journal_file.specs.declared.kept.Pending.{Pending}
use Rattle.gate_records.specs.Keeping.{octets_of}

pub octets-push : (ps : List Pending) (p : Pending) → octets_of (ps ++ p ∷ []) ≡ octets_of ps + length p.block
unfolding octets_of
octets-push [] p = omega arith
octets-push (q ∷ ps) p = let rest = octets-push ps p in omega (arith, rest)

pub octets-begin : (ps now : List Pending) (p : Pending) → now ≡ ps ++ p ∷ [] → octets_of ps + length p.block ≡ octets_of now
octets-begin ps now p is = rw is (sym (octets-push ps p))
