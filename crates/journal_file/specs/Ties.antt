-- Values of the code as those of the definitions, and its faults as refusals.
use Rattle.std.specs.Prelude.{ℕ, Bool, true, false, List, ◌∷◌, ◌++◌, Option, Some, None}
use Rattle.wire_fields.specs.Refusal.{Stop, truncated, because}
use Rattle.wire_fields.specs.declared.miss.Miss.{Miss}
use Rattle.wire_fields.specs.declared.miss.Miss.TheVariants as misses
use Rattle.journal_file.specs.declared.fault.JournalCause.{JournalCause}
use Rattle.journal_file.specs.declared.fault.JournalCause.TheVariants as causes
use Rattle.journal_file.specs.declared.fault.Damage.{Damage}
use Rattle.journal_file.specs.declared.fault.JournalFault.{JournalFault}
use Rattle.journal_file.specs.declared.fault.JournalFault.TheVariants as faults
use Rattle.gate_cases.specs.declared.face.Face.TheVariants.{Old, New}
use Rattle.journal_file.specs.declared.kept.Kept.{Kept}
use Rattle.journal_file.specs.declared.kept.Pending.{Pending}
use Rattle.journal_file.specs.declared.kept.Mark.{Mark}
use Rattle.journal_file.specs.declared.record.Record.{Record}
use Rattle.journal_file.specs.declared.record.Record.TheVariants as records
use Rattle.journal_file.specs.Values.{KeptValue, RecordValue, a_begun, a_done, a_mark, a_clear, a_reserved}
use Rattle.journal_file.specs.File.{opening}
use Rattle.journal_file.specs.Spelling.{record_octets}

-- the end of the file is a reason of its own
abbrev pub why : JournalCause → Stop JournalCause
why causes.Truncated = truncated
why cause = because cause

-- the refusal that a fault answers; want of memory is none
abbrev pub refusal : JournalFault → Option (ℕ × Stop JournalCause)
refusal (faults.Damaged at cause) = Some (at, why cause)
refusal faults.Memory = None

-- the refusal of a field
abbrev pub refused : Damage → Option (ℕ × Stop JournalCause)
refused damage = Some (damage.at, why damage.cause)

abbrev pub fault_of : Damage → JournalFault
fault_of damage = faults.Damaged damage.at damage.cause

-- a field that isn't there at a place, with its cause
abbrev pub missed : ℕ → Miss → JournalCause → Damage
missed at misses.Truncated cause = record { at = at; cause = causes.Truncated }
missed at misses.Absent cause = record { at = at; cause = cause }

abbrev pub kept_of : Kept → KeptValue
kept_of kept = record {
  pending = kept.pending.items;
  marks = kept.marks.items;
  old_reserved = kept.old_reserved;
  new_reserved = kept.new_reserved;
  greatest = kept.greatest;
}

abbrev pub record_of : Record → RecordValue
record_of (records.Begun id face came block) =
    a_begun (record { id = id; face = face; came = came; block = block.now })
record_of (records.Done id how) = a_done id how
record_of (records.Marked mark) = a_mark mark
record_of (records.Clear face session) = a_clear face session
record_of (records.Reserved face number) = a_reserved face number

-- memory is taken for a block that is begun, and for a mark
abbrev pub takes_memory : RecordValue → Bool
takes_memory (a_begun p) = true
takes_memory (a_done id how) = false
takes_memory (a_mark mark) = true
takes_memory (a_clear face session) = false
takes_memory (a_reserved face number) = false

-- an open gate, and the record behind it
abbrev pub entry_octets : RecordValue → List ℕ
entry_octets said = 1 ∷ record_octets said

abbrev pub entry_of : Record → List ℕ
entry_of said = entry_octets (record_of said)

-- ---- the parts of a file that is made anew

abbrev pub head_octets : KeptValue → List ℕ
head_octets kept =
    opening
    ++ (entry_octets (a_reserved Old kept.old_reserved)
    ++ entry_octets (a_reserved New kept.new_reserved))

abbrev pub begun_entry : Pending → List ℕ
begun_entry p = entry_octets (a_begun p)

abbrev pub mark_entry : Mark → List ℕ
mark_entry m = entry_octets (a_mark m)
