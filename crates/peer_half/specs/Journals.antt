-- A run's journal: what the run knows of it, and where its file ends.

use Rattle.std.specs.Prelude.{ℕ, ◌+◌, ◌-◌, ◌*◌, ◌^◌, min, Bool, false, nat_le, List, [], map, Option, None, Some}
use Rattle.std.specs.List.{filter}
use Rattle.gate_cases.specs.declared.face.Face.{Face}
use Rattle.gate_cases.specs.declared.face.Face.TheVariants as faces
use Rattle.gate_config.specs.declared.file.GateFile.{GateFile}
use Rattle.journal_file.specs.declared.kept.Mark.{Mark}
use Rattle.journal_file.specs.Keeping.{same_face}
use Rattle.journal_file.specs.Values.{KeptValue, RecordValue}
use Rattle.journal_file.specs.Length.{entries_length, gate_of}
use Rattle.gate_records.specs.Keeping.{octets_of, recovered}
use Rattle.peer_records.specs.Keeping.{starts_peer_keeping}
use Rattle.peer_records.specs.Halves.{PeerRecorded, starts_half}
use Rattle.peer_half.specs.Setup.{first_session}

pub record Journalled : Type 0 where
  -- what is known of what it keeps, and the records of this half
  pub recorded : PeerRecorded
  -- how many octets of its file stand before the closed gate, up to the greatest number that 64 bits
  -- show
  pub place : ℕ

-- ---- at a start

-- what is kept of earlier runs, at the first reading of the wall clock
abbrev pub recovered_in : GateFile → ℕ → KeptValue → KeptValue
recovered_in file wall kept =
    recovered wall (first_session (file.old).first_session wall)
    (first_session (file.new).first_session wall) kept

-- no file is made of it yet
abbrev pub journalled : KeptValue → Journalled
journalled kept = record { recorded = starts_half (starts_peer_keeping kept); place = 0 }

abbrev pub starts_journal : GateFile → ℕ → Option KeptValue → Option Journalled
starts_journal file wall None = None
starts_journal file wall (Some kept) = Some (journalled (recovered_in file wall kept))

-- ---- what is asked of it, where one is kept

abbrev pub kept_in : Option Journalled → Option KeptValue
kept_in None = None
kept_in (Some j) = Some ((j.recorded).keeping).kept

abbrev pub records_in : Option Journalled → List RecordValue
records_in None = []
records_in (Some j) = (j.recorded).records

-- ---- the sessions that are marked: those of the old face, and those of the new one, each in order

abbrev pub marked_in : Option Journalled → List Mark
marked_in None = []
marked_in (Some j) = (((j.recorded).keeping).kept).marks

abbrev pub marked_at : Face → List Mark → List ℕ
marked_at face marks =
    map (λ (mark : Mark). mark.session) (filter (λ (mark : Mark). same_face mark.face face) marks)

abbrev pub marked_each : Option Journalled → List ℕ × List ℕ
marked_each journal =
    (marked_at faces.Old (marked_in journal), marked_at faces.New (marked_in journal))

-- ---- a file that is made anew of what is kept

abbrev pub anew_in : Option Journalled → Option Journalled
anew_in None = None
anew_in (Some j) = Some (record {
  recorded = j.recorded;
  place = gate_of ((j.recorded).keeping).kept;
})

-- ---- records that are committed

-- they stand in the file after what stood there, and none is left
abbrev pub past_commit : Option Journalled → Option Journalled
past_commit None = None
past_commit (Some j) = Some (record {
  recorded = starts_half (j.recorded).keeping;
  place = min (j.place + entries_length (j.recorded).records) (2 ^ 64 - 1);
})

-- ---- a file that is to be made anew

-- 64 MiB stand before its gate, and twice as much as is pending
abbrev pub is_large : Option Journalled → Bool
is_large None = false
is_large (Some j) =
    nat_le (67108864 + 2 * octets_of (((j.recorded).keeping).kept).pending) j.place
