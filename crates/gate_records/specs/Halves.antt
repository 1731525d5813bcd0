-- The records of a half, in their order.

use Rattle.std.specs.Prelude.{ℕ, List, [], ◌∷◌, ◌++◌}
use Rattle.journal_file.specs.Values.{RecordValue}
use Rattle.gate_records.specs.Happened.{Happened}
use Rattle.gate_records.specs.Keeping.{KeepingValue}
use Rattle.gate_records.specs.Records.{step_records, after_step, reserved_records, after_reserving}

-- what is known, and the records that are to be committed
pub record Recorded : Type 0 where
  pub keeping : KeepingValue
  pub records : List RecordValue

-- before the first step of a half
abbrev pub starts_half : KeepingValue → Recorded
starts_half k = record { keeping = k; records = [] }

abbrev pub recording : Happened → Recorded → Recorded
recording h r = record {
  keeping = after_step h r.keeping;
  records = r.records ++ step_records h r.keeping;
}

unfoldable pub recording_all : List Happened → Recorded → Recorded
recording_all [] r = r
recording_all (h ∷ steps) r = recording_all steps (recording h r)

-- after the last step, with the next numbers of the two engines
abbrev pub ends_half : ℕ → ℕ → Recorded → Recorded
ends_half old_next new_next r = record {
  keeping = after_reserving old_next new_next r.keeping;
  records = r.records ++ reserved_records old_next new_next (r.keeping).kept;
}

-- all of them
abbrev pub half_records : List Happened → ℕ → ℕ → KeepingValue → Recorded
half_records steps old_next new_next k =
    ends_half old_next new_next (recording_all steps (starts_half k))
