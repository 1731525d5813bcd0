-- What a run adds of earlier runs: in each half pieces that are pending, without a record; and over all of its halves
-- each of them once, in order.

use Rattle.std.specs.Prelude.{◌≡◌, ℕ, zero, suc, Bool, false, ◌==◌, List, [], ◌∷◌, ◌++◌, map, Option, None, Some, IfSome, if◌then◌else◌}
use Rattle.std.specs.List.{AllByRecursion, filter}
use Rattle.gate_cases.specs.declared.face.Face.{Face}
use Rattle.gate_cases.specs.declared.face.Face.TheVariants.{Old, New}
use Rattle.gate_cases.specs.Faces.{other_of}
use Rattle.journal_file.specs.declared.kept.Pending.{Pending}
use Rattle.journal_file.specs.Keeping.{same_face}
use Rattle.journal_file.specs.Legal.{IsLegal}
use Rattle.peer_gateway.specs.Steps.{PeerEvent}
use Rattle.peer_records.specs.Keeping.{to_add_at}
use Rattle.peer_half.specs.Journals.{Journalled, kept_in, records_in}
use Rattle.peer_half.specs.Standing.{Standing}
use Rattle.peer_half.specs.Parts.{begin_of, is_added, next_resumed, pending_in, reads, resumed, resumes, resumes_at, where_some}
use Rattle.peer_half.specs.Half.{Came, half}
use Rattle.peer_half.specs.Runs.{EventIn, Run, begins_at, resumed_each, stands_at}
use Rattle.peer_journal_laws.specs.Pieces.{IsAmong, pending_of}

-- ---- in a half

-- the pieces that are to be added at a face, at most so many: the last is one for which there is no room
unfoldable pub tried_in : ℕ → Face → Standing → List Pending
tried_in zero face s = []
tried_in (suc n) face s =
    where_some (next_resumed face s)
    (λ p. p ∷ (if is_added p s then tried_in n face (resumed p s) else [])) []

-- those that are added
unfoldable pub added_in : ℕ → Face → Standing → List Pending
added_in zero face s = []
added_in (suc n) face s =
    where_some (next_resumed face s)
    (λ p. if is_added p s then p ∷ added_in n face (resumed p s) else []) []

abbrev pub tried_at : Face → Standing → List Pending
tried_at face s = tried_in (pending_in s.journal) face s

abbrev pub added_at : Face → Standing → List Pending
added_at face s = added_in (pending_in s.journal) face s

-- at the old face, and then at the new one
abbrev pub tried_again : Standing → List Pending
tried_again s = tried_at Old s ++ tried_at New (resumes_at Old s)

abbrev pub added_again : Standing → List Pending
added_again s = added_at Old s ++ added_at New (resumes_at Old s)

abbrev pub event_of : EventIn → PeerEvent
event_of event = event.0

-- no two have an id
abbrev pub AreOnce : List Pending → Type 0
AreOnce [] = Unit {0}
AreOnce (p ∷ more) = AllByRecursion (λ (q : Pending). (p.id == q.id) ≡ false) more × AreOnce more

pub record AddsAgain (s : Standing) : Type 0 where
  -- what comes to the gate are the octets of these pieces and what their records say of when they came, each at its
  -- face
  pub events : map event_of (resumed_each s) ≡ map begin_of (tried_again s)
  pub pending : AllByRecursion (λ (p : Pending). IsAmong p (pending_of (kept_in s.journal))) (tried_again s)
  pub once : AreOnce (added_again s)
  -- nothing is recorded, and the same is kept
  pub kept : kept_in (resumes s).journal ≡ kept_in s.journal
  pub records : records_in (resumes s).journal ≡ records_in s.journal

-- so it is in each half of a run, once its clocks are read
abbrev pub ResumesWhatIsKept : Type 0
ResumesWhatIsKept = (r : Run) (came : Came) → AddsAgain (reads came.reading (stands_at r))

-- ---- while there is room

-- there is no room for the next piece of an earlier run at a face, if there is one
abbrev pub HasNoRoom : Face → Standing → Type 0
HasNoRoom face s = IfSome (next_resumed face s) (λ p. is_added p s ≡ false)

-- In each half of a run they are added at the old face, and then at the new one, until there is no room for the next.
abbrev pub AddsWhileRoomInRuns : Type 0
AddsWhileRoomInRuns =
    (r : Run) (came : Came) → IfSome r.kept IsLegal
    → HasNoRoom Old (resumes_at Old (reads came.reading (stands_at r)))
    × HasNoRoom New (resumes (reads came.reading (stands_at r)))

-- ---- over a whole run

-- the pieces that some halves add, in order
unfoldable pub added_over : (board : Bool) → Face → List Came → Standing → List Pending
added_over board face [] s = []
added_over board face (came ∷ more) s =
    added_again (reads came.reading s)
    ++ added_over board (other_of face) more (half board face came s).standing

-- all that a run adds
abbrev pub added_by : Run → List Pending
added_by r = added_over r.board Old r.comes (begins_at r)

-- of some pieces those of a face
abbrev pub of_face : Face → List Pending → List Pending
of_face at pieces = filter (λ (p : Pending). same_face p.face at) pieces

-- those of earlier runs that are still to be added at a face
abbrev pub still_to_add : Face → Option Journalled → List Pending
still_to_add at None = []
still_to_add at (Some j) = to_add_at at (j.recorded).keeping

-- At each face what a run adds of earlier runs, and after it what is still to be added, is what was pending there
-- when the run began, in order.
abbrev pub AddsAgainInOrder : Type 0
AddsAgainInOrder =
    (r : Run) → IfSome r.kept IsLegal → (at : Face)
    → of_face at (added_by r) ++ still_to_add at (stands_at r).journal
    ≡ of_face at (pending_of r.kept)

-- so each is added once: no two that the run adds have an id
abbrev pub AddsAgainOnce : Type 0
AddsAgainOnce = (r : Run) → IfSome r.kept IsLegal → AreOnce (added_by r)
