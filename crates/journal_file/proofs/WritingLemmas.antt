-- Records behind their gates are written one after another.
use Rattle.std.proofs.Common.{◌≡◌, ℕ, List, [], ◌∷◌, ◌++◌, map, refl, sym, ap, ◌∙◌, append_assoc}
use Rattle.std.specs.List.{flat_map}
use Rattle.journal_file.specs.declared.record.Record.{Record}
use Rattle.journal_file.specs.Spelling.{record_octets, gated}
use Rattle.journal_file.specs.Ties.{record_of, entry_of}

pub gated-entries : (rs : List Record) → gated (map record_of rs) ≡ flat_map entry_of rs ++ 0 ∷ []
unfolding gated
gated-entries [] = refl
gated-entries (r ∷ rs) =
    ap (λ (w : List ℕ). 1 ∷ (record_octets (record_of r) ++ w)) (gated-entries rs)
    ∙ sym (append_assoc (entry_of r) (flat_map entry_of rs) (0 ∷ []))
