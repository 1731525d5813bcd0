-- What holds of the records of each step and of each half, in other words than their definitions'. What holds
-- of any records that follow one another, `gate_records` says: ids are used once, and marks stay.

use Rattle.std.specs.Prelude.{◌≡◌, ℕ, ◌+◌, ◌^◌, ◌<◌, ◌≤◌, Bool, true, false, not, ◌==◌, List, [], ◌∷◌, ◌++◌, length, Option, None, Some}
use Rattle.std.specs.List.{filter, list_any}
use Rattle.gate_cases.specs.declared.face.Face.{Face}
use Rattle.gate_cases.specs.declared.face.Face.TheVariants as faces
use Rattle.ltp_segment.specs.declared.session.Note.TheVariants as engine
use Rattle.piece_gathering.specs.declared.piece.Piece.{Piece}
use Rattle.gateway_core.specs.declared.effects.FaceNote.{FaceNote}
use Rattle.gateway_core.specs.declared.effects.Routed.{Routed}
use Rattle.journal_file.specs.declared.kept.Pending.{Pending}
use Rattle.journal_file.specs.declared.kept.Mark.{Mark}
use Rattle.journal_file.specs.declared.record.How.{How}
use Rattle.journal_file.specs.declared.record.How.TheVariants as hows
use Rattle.journal_file.specs.Values.{KeptValue, RecordValue, a_begun, a_done}
use Rattle.journal_file.specs.Keeping.{is_pending, same_face, kept_after}
use Rattle.journal_file.specs.Spelling.{MayFollow, IsSmall}
use Rattle.journal_file.specs.Legal.{IsLegal}
use Rattle.journal_file.specs.Anew.{IsSound}
use Rattle.gate_records.specs.Happened.{note_ends, reports_on}
use Rattle.gate_records.specs.Keeping.{NUMBERS, first_of, recovered}
use Rattle.gate_records.specs.Records.{is_marked, marks_after}
use Rattle.gate_records.specs.Laws.{ReportSmall, ends_of, is_end, AllClearIfOver}
use Rattle.peer_gateway.specs.Gate.{AddedAt, told_engine}
use Rattle.peer_records.specs.Happened.{PeerHappened, notes_in, marking}
use Rattle.peer_records.specs.Keeping.{Waiting, PeerKeeping, ids_in, ids_pending, held, times, starts_peer_keeping, to_add_at}
use Rattle.peer_records.specs.Records.{ids_of, came_if, pending_with, begun_records, waiting_with, piece_records, step_records, after_step, after_reserving}
use Rattle.peer_records.specs.Halves.{PeerRecorded, starts_half, recording, half_records}

-- ---- what is known is right

pub record IsKeeping (k : PeerKeeping) : Type 0 where
  pub legal : IsLegal k.kept
  -- an id that waits or is in a session is that of a pending piece, and isn't held twice
  pub held_once : (id : ℕ) → times id (held k) ≤ times id (ids_pending (k.kept).pending)

-- ---- a step that fits: what it names has a spelling

abbrev pub AreShort : List AddedAt → Type 0
AreShort [] = Unit {0}
AreShort (a ∷ more) =
    (length (a.piece).octets < 2 ^ 64) × IsSmall (came_if a.piece) × AreShort more

-- a piece that is to be added again is pending, and neither waits nor is in a session
pub record IsToAdd (k : PeerKeeping) (id : ℕ) : Type 0 where
  pub pending : is_pending id (k.kept).pending ≡ true
  pub free : times id (held k) ≡ 0

-- New pieces have ids, of which there are as many left. One of an earlier run has its own.
abbrev pub AddsWell : Option ℕ → List AddedAt → PeerKeeping → Type 0
AddsWell None added k =
    ((k.kept).greatest + length added < 2 ^ 64) × AreShort added
AddsWell (Some id) added k = IsToAdd k id

pub record Fits (h : PeerHappened) (k : PeerKeeping) : Type 0 where
  pub wall : h.wall < 2 ^ 64
  pub added : AddsWell h.again h.added k
  pub sessions : ReportSmall h.out

-- ---- a step that does nothing of which the journal has to know: it adds no piece, begins no block, and has no
-- record

pub record DoesNothing (h : PeerHappened) (k : PeerKeeping) : Type 0 where
  pub added : h.added ≡ []
  pub begun : h.begun ≡ []
  pub records : step_records h k ≡ []

-- ---- the records of a step may be committed, and what is known is right after them

-- Each id is begun once, and ids rise: a record that begins a piece has one above all before. Each is done
-- at most once: a record that ends one has the id of a pending piece, which is pending no more.
abbrev pub StepMayFollow : Type 0
StepMayFollow =
    (h : PeerHappened) (k : PeerKeeping) → IsKeeping k → Fits h k
    → MayFollow k.kept (step_records h k) × IsKeeping (after_step h k)

-- An id waits at one face, or is in one session, or neither: never two of these, and never twice. While it
-- does, its piece is pending.
pub record IsHeld (k : PeerKeeping) (id : ℕ) : Type 0 where
  pub once : times id (held k) ≤ 1
  pub pending : 0 < times id (held k) → is_pending id (k.kept).pending ≡ true

abbrev pub HeldOnce : Type 0
HeldOnce = (k : PeerKeeping) → IsKeeping k → (id : ℕ) → IsHeld k id

-- ---- those of a half

abbrev pub FitAll : List PeerHappened → PeerRecorded → Type 0
FitAll [] r = Unit {0}
FitAll (h ∷ steps) r = Fits h r.keeping × FitAll steps (recording h r)

-- applied to what the journal said before the half, they give what is kept after it
abbrev pub HalfIsKept : Type 0
HalfIsKept =
    (steps : List PeerHappened) (old_next new_next : ℕ) (k : PeerKeeping)
    → kept_after k.kept (half_records steps old_next new_next k).records
    ≡ ((half_records steps old_next new_next k).keeping).kept

abbrev pub HalfMayFollow : Type 0
HalfMayFollow =
    (steps : List PeerHappened) (old_next new_next : ℕ) (k : PeerKeeping)
    → IsKeeping k → FitAll steps (starts_half k)
    → MayFollow k.kept (half_records steps old_next new_next k).records
    × IsKeeping (half_records steps old_next new_next k).keeping

-- ---- pieces

-- a piece that was added is among those that are pending, under an id that waits or is in a session
pub record IsKeptPiece (a : AddedAt) (k : PeerKeeping) : Type 0 where
  pub id : ℕ
  pub earlier : List Pending
  pub later : List Pending
  pub pending : (k.kept).pending ≡ earlier ++ pending_with id a ∷ later
  pub is_held : 0 < times id (held k)

abbrev pub PiecesArePending : Type 0
PiecesArePending =
    (h : PeerHappened) (k : PeerKeeping) (before : List AddedAt) (a : AddedAt) (after : List AddedAt)
    → h.again ≡ None → h.added ≡ before ++ a ∷ after → a.is_report ≡ false
    → IsKeptPiece a (after_step h k)

-- a report of the gateway has no record, and takes no id: the others have the same records and ids as if it
-- weren't there
abbrev pub ReportsHaveNoId : Type 0
ReportsHaveNoId =
    (greatest : ℕ) (before : List AddedAt) (a : AddedAt) (after : List AddedAt)
    (waiting : Waiting × Waiting) → a.is_report ≡ true
    → (begun_records greatest (before ++ a ∷ after) ≡ begun_records greatest (before ++ after))
    × (ids_in (waiting_with greatest (before ++ a ∷ after) waiting).0
    ≡ ids_in (waiting_with greatest (before ++ after) waiting).0)
    × (ids_in (waiting_with greatest (before ++ a ∷ after) waiting).1
    ≡ ids_in (waiting_with greatest (before ++ after) waiting).1)

-- ---- a piece of an earlier run

-- the first that is still to be added at a face is pending, is of that face, and isn't held
abbrev pub ToAddIsFree : Type 0
ToAddIsFree =
    (face : Face) (k : PeerKeeping) (p : Pending) (more : List Pending) → to_add_at face k ≡ p ∷ more
    → IsToAdd k p.id × (same_face p.face face ≡ true)

-- those that are still to be added after a step: not the one that it added, where there was room for that
abbrev pub still_to_add : Option ℕ → List AddedAt → List Pending → List Pending
still_to_add None added pending = pending
still_to_add (Some id) [] pending = pending
still_to_add (Some id) (a ∷ more) pending = filter (λ (p : Pending). not (p.id == id)) pending

-- Whatever else a step does, they are to be added after it as before, and in the same order.
abbrev pub ToAddStays : Type 0
ToAddStays =
    (h : PeerHappened) (k : PeerKeeping) (face : Face) → IsLegal k.kept
    → to_add_at face (after_step h k) ≡ still_to_add h.again h.added (to_add_at face k)

-- One that is added keeps its id, and takes no record. It is held once, so it is added no second time.
abbrev pub AddedAgainOnce : Type 0
AddedAgainOnce =
    (h : PeerHappened) (k : PeerKeeping) (id : ℕ) (a : AddedAt) (more : List AddedAt)
    → IsKeeping k → h.again ≡ Some id → h.added ≡ a ∷ more → IsToAdd k id
    → (piece_records h k ≡ []) × (times id (held (after_step h k)) ≡ 1)

-- ---- ends

-- a piece that was pending and isn't after some records has its `done` among them
abbrev pub LeavesByItsEnd : Type 0
LeavesByItsEnd =
    (kept : KeptValue) (records : List RecordValue) (id : ℕ)
    → is_pending id kept.pending ≡ true → is_pending id (kept_after kept records).pending ≡ false
    → list_any (λ said. is_end id (ends_of said)) records ≡ true

-- Each piece with an id of a session has its `done` where a note tells that the session ended: not the first
-- of its pieces alone.
abbrev pub EachIsDone : Type 0
EachIsDone =
    (h : PeerHappened) (k : PeerKeeping) (before : List FaceNote) (n : FaceNote) (after : List FaceNote)
    (session : ℕ) (how : How) (id : ℕ)
    → notes_in h.told ≡ before ++ n ∷ after → note_ends n.note ≡ Some (session, how)
    → h.is_open n.face session ≡ false → 0 < times id (ids_of n.face session k.named)
    → list_any (λ said. is_end id (ends_of said)) (step_records h k) ≡ true

-- ---- reports about the peers' sessions

-- When a report goes out about a session of the peer that isn't handed up, the session is marked from then
-- on: the marks after the datagrams so far have one about it.
abbrev pub ReportIsMarked : Type 0
ReportIsMarked =
    (h : PeerHappened) (marks : List Mark) (before : List Routed) (routed : Routed) (session : ℕ)
    → reports_on routed.datagram ≡ Some session → h.is_handed_up routed.face session ≡ false
    → is_marked routed.face session (marks_after (marking h) (before ++ routed ∷ []) marks) ≡ true

-- a record that clears a session is of one that is over
abbrev pub OnlyOverIsCleared : Type 0
OnlyOverIsCleared =
    (h : PeerHappened) (k : PeerKeeping) → AllClearIfOver (marking h) (step_records h k)

-- ---- numbers

-- after a half no number that an engine has given is above what is reserved
abbrev pub NumbersAreReserved : Type 0
NumbersAreReserved =
    (old_next new_next : ℕ) (k : PeerKeeping) → old_next ≤ NUMBERS → new_next ≤ NUMBERS
    → (old_next ≤ ((after_reserving old_next new_next k).kept).old_reserved)
    × (new_next ≤ ((after_reserving old_next new_next k).kept).new_reserved)

-- ---- a start

-- what is recovered is legal, so the file may be made anew of it; it has the same pending pieces, and the
-- numbers of this run are above those of earlier ones
pub record Recovers (wall old_first new_first : ℕ) (kept : KeptValue) : Type 0 where
  pub sound : IsSound (recovered wall old_first new_first kept)
  pub pending : (recovered wall old_first new_first kept).pending ≡ kept.pending
  pub old : kept.old_reserved ≤ first_of old_first kept.old_reserved
  pub new : kept.new_reserved ≤ first_of new_first kept.new_reserved
  pub keeping : IsKeeping (starts_peer_keeping (recovered wall old_first new_first kept))

abbrev pub RecoversWhatIsLegal : Type 0
RecoversWhatIsLegal =
    (wall old_first new_first : ℕ) (kept : KeptValue) → IsLegal kept
    → Recovers wall old_first new_first kept

-- ---- an example

-- before any piece, where numbers below 4,097 are reserved at each face
abbrev pub at_first : KeptValue
at_first = record { pending = []; marks = []; old_reserved = 4097; new_reserved = 4097; greatest = 0 }

-- a step that begins a block of two pieces, which are added with it, in session 1 of the new face
abbrev pub two_go : Piece → Piece → List ℕ → PeerHappened
two_go p q block = record {
  wall = 1000;
  own = [];
  is_open = λ face session. true;
  is_handed_up = λ face session. true;
  out = [];
  told = [];
  again = None;
  added = record { face = faces.New; piece = p; is_report = false }
      ∷ record { face = faces.New; piece = q; is_report = false } ∷ [];
  begun = record { face = faces.New; session = 1; block = block; pieces = 2 } ∷ [];
}

-- a step in which that session ends, since all of it arrived
abbrev pub both_arrive : PeerHappened
both_arrive = record {
  wall = 2000;
  own = [];
  is_open = λ face session. false;
  is_handed_up = λ face session. true;
  out = [];
  told = record { face = faces.New; told = told_engine (engine.Sent 1) } ∷ [];
  again = None;
  added = [];
  begun = [];
}

-- each piece is begun under an id of its own, and each is done
abbrev pub TwoPiecesEnd : Type 0
TwoPiecesEnd =
    (p q : Piece) (block : List ℕ)
    → (half_records (two_go p q block ∷ both_arrive ∷ []) 1 2 (starts_peer_keeping at_first)).records
    ≡ a_begun (record { id = 1; face = faces.New; came = came_if p; block = p.octets })
    ∷ a_begun (record { id = 2; face = faces.New; came = came_if q; block = q.octets })
    ∷ a_done 1 hows.Sent ∷ a_done 2 hows.Sent ∷ []
