-- Values of the code as those of the definitions.

use Rattle.std.specs.Prelude.{ℕ, ◌-◌, Bool, true, false, ◌==◌, ◌&&◌, ◌||◌, not, List, [], ◌∷◌, length, Option, None, Some, if◌then◌else◌}
use Rattle.std.specs.List.{filter, list_any}
use Rattle.gate_cases.specs.declared.face.Face.{Face}
use Rattle.gateway_core.specs.declared.effects.FaceNote.{FaceNote}
use Rattle.gateway_core.specs.declared.effects.FaceUp.{FaceUp}
use Rattle.gateway_core.specs.Gate.{if_same}
use Rattle.gate_events.specs.declared.own.Own.{Own}
use Rattle.gate_events.specs.Own.{is_of}
use Rattle.journal_file.specs.declared.kept.Mark.{Mark}
use Rattle.journal_file.specs.declared.record.How.{How}
use Rattle.journal_file.specs.declared.record.How.TheVariants as hows
use Rattle.journal_file.specs.Values.{RecordValue, a_begun, a_done, a_mark, a_clear, a_reserved}
use Rattle.gate_records.specs.Happened.{note_ends}

-- a block is begun or ends by a record
abbrev pub is_of_block : RecordValue → Bool
is_of_block (a_begun p) = true
is_of_block (a_done id how) = true
is_of_block (a_mark mark) = false
is_of_block (a_clear face session) = false
is_of_block (a_reserved face number) = false

-- a record that clears a mark
abbrev pub clear_of : Mark → RecordValue
clear_of mark = a_clear mark.face mark.session

-- ---- whether the sender of a session cancelled it, by a walk through the notes with a count of the own
-- sessions of its number of whose end no note told yet

abbrev pub own_of : Face → ℕ → List Own → ℕ
own_of face session own = length (filter (is_of face session) own)

abbrev pub end_told : Face → ℕ → Face → Option (ℕ × How) → Option How
end_told face session at None = None
end_told face session at (Some end) =
    if_same at face (if end.0 == session then Some end.1 else None) None

-- how the session of this number ended, where a note tells of one's end
abbrev pub told_of : Face → ℕ → FaceNote → Option How
told_of face session n = end_told face session n.face (note_ends n.note)

abbrev pub is_cancel : How → Bool
is_cancel hows.Sent = false
is_cancel hows.Failed = false
is_cancel hows.Cancelled = true

abbrev pub cancels : Bool → ℕ → Option How → Bool
cancels is_open left None = false
cancels is_open left (Some how) = is_cancel how && (is_open || left == 0)

abbrev pub left_after : Bool → ℕ → Option How → ℕ
left_after is_open left None = left
left_after is_open left (Some how) = if is_open then left else left - 1

unfoldable pub cancelled_by : Bool → ℕ → Face → ℕ → List FaceNote → Bool
cancelled_by is_open left face session [] = false
cancelled_by is_open left face session (n ∷ more) =
    cancels is_open left (told_of face session n)
    || cancelled_by is_open (left_after is_open left (told_of face session n)) face session more

-- ---- whether any session of the peers can be over with a step

abbrev pub end_cancels : Option (ℕ × How) → Bool
end_cancels None = false
end_cancels (Some end) = is_cancel end.1

abbrev pub cancels_any : FaceNote → Bool
cancels_any n = end_cancels (note_ends n.note)

abbrev pub may_be_over : List FaceUp → List FaceNote → Bool
may_be_over ups notes = not (length ups == 0) || list_any cancels_any notes
