-- A record of no block leaves the pending blocks alone.
use Rattle.std.proofs.Common.{◌≡◌, false, refl}
use Rattle.gate_cases.specs.declared.face.Face.TheVariants.{Old, New}
use Rattle.journal_file.specs.Values.{KeptValue, RecordValue, a_begun, a_done, a_mark, a_clear, a_reserved}
use Rattle.journal_file.specs.Keeping.{kept_with}
use Rattle.gate_records.specs.Ties.{is_of_block}

pub same-pending : (k : KeptValue) (said : RecordValue) → is_of_block said ≡ false → (kept_with k said).pending ≡ k.pending
unfolding kept_with
same-pending k (a_begun p) is = absurd (cc)
same-pending k (a_done id how) is = absurd (cc)
same-pending k (a_mark m) is = refl
same-pending k (a_clear face session) is = refl
same-pending k (a_reserved Old n) is = refl
same-pending k (a_reserved New n) is = refl
