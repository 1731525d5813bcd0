-- The records of a step, in their order, and what is known after them.

use Rattle.std.specs.Prelude.{ℕ, ◌+◌, Bool, not, List, [], ◌∷◌, ◌++◌, map, take, drop, Option, None, Some, if◌then◌else◌}
use Rattle.std.specs.List.{filter}
use Rattle.gate_cases.specs.declared.face.Face.{Face}
use Rattle.gateway_core.specs.declared.effects.FaceNote.{FaceNote}
use Rattle.gateway_core.specs.Gate.{at_face, with_face}
use Rattle.gate_events.specs.Own.{OpenAt}
use Rattle.journal_file.specs.declared.kept.Pending.{Pending}
use Rattle.journal_file.specs.declared.record.How.{How}
use Rattle.journal_file.specs.Values.{RecordValue, a_begun, a_done}
use Rattle.journal_file.specs.Keeping.{kept_after}
use Rattle.gate_records.specs.declared.named.Named.{Named}
use Rattle.gate_records.specs.Named.{is_of, named_with}
use Rattle.gate_records.specs.Happened.{note_ends}
use Rattle.gate_records.specs.Records.{mark_records, marks_after, clear_records, reserved_records}
use Rattle.piece_gathering.specs.declared.piece.Piece.{Piece}
use Rattle.peer_gateway.specs.Gate.{AddedAt, BegunAt}
use Rattle.peer_records.specs.Happened.{PeerHappened, notes_in, marking}
use Rattle.peer_records.specs.Keeping.{Waiting, PeerKeeping, ids_named}

-- ---- `done` for each piece, with an id, of a block whose session ended

-- the pieces of a session
abbrev pub ids_of : Face → ℕ → List Named → List ℕ
ids_of face session named = ids_named (filter (is_of face session) named)

abbrev pub others_than : Face → ℕ → List Named → List Named
others_than face session named = filter (λ (n : Named). not (is_of face session n)) named

abbrev pub all_done : How → List ℕ → List RecordValue
all_done how ids = map (λ id. a_done id how) ids

-- by what a note may tell: the session isn't open after the step
abbrev pub end_done : OpenAt → Face → Option (ℕ × How) → List Named → List RecordValue
end_done is_open face None named = []
end_done is_open face (Some end) named =
    if is_open face end.0 then [] else all_done end.1 (ids_of face end.0 named)

abbrev pub end_leaves : OpenAt → Face → Option (ℕ × How) → List Named → List Named
end_leaves is_open face None named = named
end_leaves is_open face (Some end) named =
    if is_open face end.0 then named else others_than face end.0 named

unfoldable pub done_records : OpenAt → List FaceNote → List Named → List RecordValue
done_records is_open [] named = []
done_records is_open (n ∷ more) named =
    end_done is_open n.face (note_ends n.note) named
    ++ done_records is_open more (end_leaves is_open n.face (note_ends n.note) named)

-- the pieces of whose session's end no note told
unfoldable pub named_left : OpenAt → List FaceNote → List Named → List Named
named_left is_open [] named = named
named_left is_open (n ∷ more) named =
    named_left is_open more (end_leaves is_open n.face (note_ends n.note) named)

-- ---- `begun` for each piece that is added, with the next id; a report of the gateway has none

-- where its age grows while it waits, with the moment at which its bundle came
abbrev pub came_if : Piece → Option ℕ
came_if piece = if piece.is_dated then Some piece.came else None

abbrev pub pending_with : ℕ → AddedAt → Pending
pending_with id a =
    record { id = id; face = a.face; came = came_if a.piece; block = (a.piece).octets }

unfoldable pub begun_records : ℕ → List AddedAt → List RecordValue
begun_records greatest [] = []
begun_records greatest (a ∷ more) =
    if a.is_report then begun_records greatest more
    else a_begun (pending_with (greatest + 1) a) ∷ begun_records (greatest + 1) more

-- one waits at a face after the others
abbrev pub waits_at : Face → Option ℕ → Waiting × Waiting → Waiting × Waiting
waits_at face id waiting = with_face waiting face (at_face waiting face ++ id ∷ [])

unfoldable pub waiting_with : ℕ → List AddedAt → Waiting × Waiting → Waiting × Waiting
waiting_with greatest [] waiting = waiting
waiting_with greatest (a ∷ more) waiting =
    if a.is_report then waiting_with greatest more (waits_at a.face None waiting)
    else waiting_with (greatest + 1) more (waits_at a.face (Some (greatest + 1)) waiting)

-- A piece of an earlier run has its id from before: that takes no record. Where there is no room for it
-- nothing is added.
abbrev pub waiting_again : ℕ → List AddedAt → Waiting × Waiting → Waiting × Waiting
waiting_again id [] waiting = waiting
waiting_again id (a ∷ more) waiting = waits_at a.face (Some id) waiting

abbrev pub added_records : Option ℕ → ℕ → List AddedAt → List RecordValue
added_records None greatest added = begun_records greatest added
added_records (Some id) greatest added = []

abbrev pub added_waiting : Option ℕ → ℕ → List AddedAt → Waiting × Waiting → Waiting × Waiting
added_waiting None greatest added waiting = waiting_with greatest added waiting
added_waiting (Some id) greatest added waiting = waiting_again id added waiting

-- ---- blocks that begin: so many pieces in front of those that wait are in the session

abbrev pub named_if : Face → ℕ → Option ℕ → List Named
named_if face session None = []
named_if face session (Some id) = named_with face session id ∷ []

unfoldable pub named_in : Face → ℕ → Waiting → List Named
named_in face session [] = []
named_in face session (id ∷ more) = named_if face session id ++ named_in face session more

pub record Going : Type 0 where
  pub waiting : Waiting × Waiting
  pub named : List Named

abbrev pub goes_with : BegunAt → Going → Going
goes_with b g = record {
  waiting = with_face g.waiting b.face (drop b.pieces (at_face g.waiting b.face));
  named = g.named ++ named_in b.face b.session (take b.pieces (at_face g.waiting b.face));
}

unfoldable pub all_go : List BegunAt → Going → Going
all_go [] g = g
all_go (b ∷ more) g = all_go more (goes_with b g)

-- ---- a step

abbrev pub ended_records : PeerHappened → PeerKeeping → List RecordValue
ended_records h k = done_records h.is_open (notes_in h.told) k.named

abbrev pub piece_records : PeerHappened → PeerKeeping → List RecordValue
piece_records h k = added_records h.again (k.kept).greatest h.added

abbrev pub report_records : PeerHappened → PeerKeeping → List RecordValue
report_records h k = mark_records (marking h) h.out (k.kept).marks

abbrev pub over_records : PeerHappened → PeerKeeping → List RecordValue
over_records h k = clear_records (marking h) (marks_after (marking h) h.out (k.kept).marks)

unfoldable pub step_records : PeerHappened → PeerKeeping → List RecordValue
step_records h k =
    ended_records h k ++ (piece_records h k ++ (report_records h k ++ over_records h k))

-- what waits before blocks begin, and what the sessions have that didn't end
abbrev pub before_going : PeerHappened → PeerKeeping → Going
before_going h k = record {
  waiting = added_waiting h.again (k.kept).greatest h.added k.waiting;
  named = named_left h.is_open (notes_in h.told) k.named;
}

unfoldable pub after_step : PeerHappened → PeerKeeping → PeerKeeping
after_step h k = record {
  kept = kept_after k.kept (step_records h k);
  waiting = (all_go h.begun (before_going h k)).waiting;
  named = (all_go h.begun (before_going h k)).named;
}

-- ---- last in a half: `reserved`

abbrev pub after_reserving : ℕ → ℕ → PeerKeeping → PeerKeeping
after_reserving old_next new_next k = record {
  kept = kept_after k.kept (reserved_records old_next new_next k.kept);
  waiting = k.waiting;
  named = k.named;
}
