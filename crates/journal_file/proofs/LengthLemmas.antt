-- How long a file is.
use Rattle.std.proofs.Common.{◌≡◌, ◌+◌, List, [], ◌∷◌, ◌++◌, length, refl, ap, ◌∙◌, arith}
use Rattle.std.proofs.lemmas.List.{length-append}
use Rattle.std.proofs.lemmas.List.Concat.{flat_map-append}
use Rattle.std.specs.List.{flat_map}
use Rattle.journal_file.specs.Values.{KeptValue, RecordValue}
use Rattle.journal_file.specs.File.{opening}
use Rattle.journal_file.specs.Spelling.{gated, behind_gate, record_octets}
use Rattle.journal_file.specs.Anew.{anew, file_of}
use Rattle.journal_file.specs.Length.{entries_length, gate_of}
use Rattle.journal_file.specs.Ties.{entry_octets}
use Rattle.journal_file.proofs.AnewLemmas.{gated-values}

pub gated-length : (rs : List RecordValue) → length (gated rs) ≡ entries_length rs + 1
gated-length rs = ap length (gated-values rs) ∙ length-append (flat_map entry_octets rs) (0 ∷ [])

pub behind-length : (rs : List RecordValue) → length (behind_gate rs) ≡ entries_length rs
unfolding behind_gate
behind-length [] = refl
behind-length (r ∷ rs) =
    omega (
      arith,
      length-append (record_octets r) (gated rs),
      gated-length rs,
      length-append (entry_octets r) (flat_map entry_octets rs),
    )

pub file-length : (kept : KeptValue) → length (file_of kept) ≡ gate_of kept + 1
file-length kept = omega (arith, length-append opening (gated (anew kept)), gated-length (anew kept))

pub entries-append : (rs more : List RecordValue) → entries_length (rs ++ more) ≡ entries_length rs + entries_length more
entries-append rs more = ap length (flat_map-append entry_octets rs more) ∙ length-append (flat_map entry_octets rs) (flat_map entry_octets more)
