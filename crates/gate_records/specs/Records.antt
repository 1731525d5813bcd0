-- The records of a step, in their order, and what is known after them.

use Rattle.std.specs.Prelude.{ℕ, Bool, ◌||◌, nat_lt, List, [], ◌∷◌, ◌++◌, Option, None, Some, if◌then◌else◌}
use Rattle.std.specs.List.{list_any}
use Rattle.gate_cases.specs.declared.face.Face.{Face}
use Rattle.gate_cases.specs.declared.face.Face.TheVariants.{Old, New}
use Rattle.gateway_core.specs.declared.effects.FaceNote.{FaceNote}
use Rattle.gateway_core.specs.declared.effects.Routed.{Routed}
use Rattle.gate_events.specs.Own.{OpenAt}
use Rattle.journal_file.specs.declared.kept.Mark.{Mark}
use Rattle.journal_file.specs.declared.record.How.{How}
use Rattle.journal_file.specs.Values.{KeptValue, RecordValue, a_done, a_mark, a_clear, a_reserved}
use Rattle.journal_file.specs.Keeping.{is_about, marks_with, MARKS_MAX, kept_after}
use Rattle.gate_records.specs.declared.named.Named.{Named}
use Rattle.gate_records.specs.Named.{find_id, without_named}
use Rattle.gate_records.specs.Happened.{Happened, note_ends, reports_on, is_over}
use Rattle.gate_records.specs.Keeping.{KeepingValue, reserve_to}

-- ---- `done` for each own session that ended and has an id

-- the id of the session of whose end a note with this number tells: it isn't open after the step, and
-- no note before told of it
abbrev pub end_id : OpenAt → Face → ℕ → List Named → Option ℕ
end_id is_open face session named =
    if is_open face session then None else find_id face session named

abbrev pub left_named : OpenAt → Face → ℕ → List Named → List Named
left_named is_open face session named =
    if is_open face session then named else without_named face session named

abbrev pub done_with : Option ℕ → How → List RecordValue
done_with None how = []
done_with (Some id) how = a_done id how ∷ []

-- by what a note may tell
abbrev pub note_done : OpenAt → Face → Option (ℕ × How) → List Named → List RecordValue
note_done is_open face None named = []
note_done is_open face (Some end) named =
    done_with (end_id is_open face end.0 named) end.1

abbrev pub note_leaves : OpenAt → Face → Option (ℕ × How) → List Named → List Named
note_leaves is_open face None named = named
note_leaves is_open face (Some end) named = left_named is_open face end.0 named

unfoldable pub done_records : OpenAt → List FaceNote → List Named → List RecordValue
done_records is_open [] named = []
done_records is_open (n ∷ more) named =
    note_done is_open n.face (note_ends n.note) named
    ++ done_records is_open more (note_leaves is_open n.face (note_ends n.note) named)

-- the sessions of whose end no note told
unfoldable pub named_left : OpenAt → List FaceNote → List Named → List Named
named_left is_open [] named = named
named_left is_open (n ∷ more) named =
    named_left is_open more (note_leaves is_open n.face (note_ends n.note) named)

-- ---- `mark` for each report that goes out about a session of the peer that isn't handed up by then,
-- and isn't marked

abbrev pub is_marked : Face → ℕ → List Mark → Bool
is_marked face session marks = list_any (is_about face session) marks

abbrev pub mark_of : ℕ → Face → ℕ → Mark
mark_of wall face session = record { face = face; session = session; when = wall }

-- the mark that is due for a datagram, by the session that it reports on
abbrev pub due_mark : Happened → Face → Option ℕ → List Mark → Option Mark
due_mark h face None marks = None
due_mark h face (Some session) marks =
    if h.is_handed_up face session || is_marked face session marks then None
    else Some (mark_of h.wall face session)

abbrev pub mark_with : Option Mark → List RecordValue
mark_with None = []
mark_with (Some mark) = a_mark mark ∷ []

abbrev pub marks_then : Option Mark → List Mark → List Mark
marks_then None marks = marks
marks_then (Some mark) marks = marks_with MARKS_MAX mark marks

unfoldable pub mark_records : Happened → List Routed → List Mark → List RecordValue
mark_records h [] marks = []
mark_records h (routed ∷ more) marks =
    mark_with (due_mark h routed.face (reports_on routed.datagram) marks)
    ++ mark_records h more
    (marks_then (due_mark h routed.face (reports_on routed.datagram) marks) marks)

unfoldable pub marks_after : Happened → List Routed → List Mark → List Mark
marks_after h [] marks = marks
marks_after h (routed ∷ more) marks =
    marks_after h more
    (marks_then (due_mark h routed.face (reports_on routed.datagram) marks) marks)

-- ---- `clear` for each marked session that is handed up, or that its sender cancelled

unfoldable pub clear_records : Happened → List Mark → List RecordValue
clear_records h [] = []
clear_records h (mark ∷ marks) =
    if is_over h mark.face mark.session
    then a_clear mark.face mark.session ∷ clear_records h marks
    else clear_records h marks

-- ---- a step

abbrev pub ended_records : Happened → KeepingValue → List RecordValue
ended_records h k = done_records h.is_open h.notes k.named

abbrev pub report_records : Happened → KeepingValue → List RecordValue
report_records h k = mark_records h h.out (k.kept).marks

abbrev pub over_records : Happened → KeepingValue → List RecordValue
over_records h k = clear_records h (marks_after h h.out (k.kept).marks)

unfoldable pub step_records : Happened → KeepingValue → List RecordValue
step_records h k =
    ended_records h k ++ (report_records h k ++ over_records h k)

unfoldable pub after_step : Happened → KeepingValue → KeepingValue
after_step h k = record {
  kept = kept_after k.kept (step_records h k);
  named = named_left h.is_open h.notes k.named;
}

-- ---- last in a half: `reserved` for each face whose engine's next number is above what is reserved

abbrev pub reserving : Face → ℕ → ℕ → List RecordValue
reserving face next reserved =
    if nat_lt reserved next then a_reserved face (reserve_to next) ∷ [] else []

abbrev pub reserved_records : ℕ → ℕ → KeptValue → List RecordValue
reserved_records old_next new_next kept =
    reserving Old old_next kept.old_reserved ++ reserving New new_next kept.new_reserved

abbrev pub after_reserving : ℕ → ℕ → KeepingValue → KeepingValue
after_reserving old_next new_next k = record {
  kept = kept_after k.kept (reserved_records old_next new_next k.kept);
  named = k.named;
}
