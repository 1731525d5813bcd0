-- The records of a half, in their order.

use Rattle.std.specs.Prelude.{ℕ, List, [], ◌∷◌, ◌++◌}
use Rattle.journal_file.specs.Values.{RecordValue}
use Rattle.gate_records.specs.Records.{reserved_records}
use Rattle.peer_records.specs.Happened.{PeerHappened}
use Rattle.peer_records.specs.Keeping.{PeerKeeping}
use Rattle.peer_records.specs.Records.{step_records, after_step, after_reserving}

-- what is known, and the records that are to be committed
pub record PeerRecorded : Type 0 where
  pub keeping : PeerKeeping
  pub records : List RecordValue

-- before the first step of a half
abbrev pub starts_half : PeerKeeping → PeerRecorded
starts_half k = record { keeping = k; records = [] }

abbrev pub recording : PeerHappened → PeerRecorded → PeerRecorded
recording h r = record {
  keeping = after_step h r.keeping;
  records = r.records ++ step_records h r.keeping;
}

unfoldable pub recording_all : List PeerHappened → PeerRecorded → PeerRecorded
recording_all [] r = r
recording_all (h ∷ steps) r = recording_all steps (recording h r)

-- after the last step, with the next numbers of the two engines
abbrev pub ends_half : ℕ → ℕ → PeerRecorded → PeerRecorded
ends_half old_next new_next r = record {
  keeping = after_reserving old_next new_next r.keeping;
  records = r.records ++ reserved_records old_next new_next (r.keeping).kept;
}

-- all of them
abbrev pub half_records : List PeerHappened → ℕ → ℕ → PeerKeeping → PeerRecorded
half_records steps old_next new_next k =
    ends_half old_next new_next (recording_all steps (starts_half k))
