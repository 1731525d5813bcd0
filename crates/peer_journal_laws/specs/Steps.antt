-- The steps of a run that keeps a journal, in order: what each did, and what was known before it.

use Rattle.std.specs.Prelude.{◌≡◌, ℕ, zero, suc, Bool, List, [], ◌∷◌, ◌++◌, Option, None, Some, IfSome, IsSomeAnd, if◌then◌else◌}
use Rattle.ltp_segment.specs.Reading.{segment_of}
use Rattle.gate_cases.specs.declared.face.Face.{Face}
use Rattle.gate_cases.specs.declared.face.Face.TheVariants.{Old, New}
use Rattle.gate_cases.specs.Faces.{other_of}
use Rattle.journal_file.specs.Values.{RecordValue}
use Rattle.peer_gateway.specs.Steps.{PeerEvent, a_datagram, a_tick}
use Rattle.peer_records.specs.Happened.{PeerHappened}
use Rattle.peer_records.specs.Keeping.{PeerKeeping}
use Rattle.peer_records.specs.Records.{after_step, step_records}
use Rattle.peer_half.specs.Journals.{Journalled}
use Rattle.peer_half.specs.Standing.{Standing}
use Rattle.peer_half.specs.Steps.{happened_in}
use Rattle.peer_half.specs.Parts.{arrives, begin_of, is_added, next_resumed, pending_in, reads, reserves, resumed, resumes, resumes_at, ticks, where_some}
use Rattle.peer_half.specs.Half.{Came, half, hears}
use Rattle.peer_half.specs.Runs.{Run, begins_at, stands_at}

-- what a step did, and what was known of the journal before it
pub record JournalStep : Type 0 where
  pub happened : PeerHappened
  pub keeping : PeerKeeping

-- its records, and what is known after it
abbrev pub records_of : JournalStep → List RecordValue
records_of step = step_records step.happened step.keeping

abbrev pub known_then : JournalStep → PeerKeeping
known_then step = after_step step.happened step.keeping

-- ---- in a half

-- a step whose records are made; none without a journal
abbrev pub step_with : PeerHappened → Option Journalled → List JournalStep
step_with h None = []
step_with h (Some j) = record { happened = h; keeping = (j.recorded).keeping } ∷ []

-- an event that is to add a piece of an earlier run, or any other
abbrev pub step_at : Option ℕ → PeerEvent → Standing → List JournalStep
step_at again event s = step_with (happened_in again event s) s.journal

-- pieces of earlier runs are to be added at a face, at most so many: the last is one for which there is no room
unfoldable pub steps_adding : ℕ → Face → Standing → List JournalStep
steps_adding zero face s = []
steps_adding (suc n) face s =
    where_some (next_resumed face s)
    (λ p. step_at (Some p.id) (begin_of p) s ++ (if is_added p s then steps_adding n face (resumed p s) else [])) []

abbrev pub steps_again : Face → Standing → List JournalStep
steps_again face s = steps_adding (pending_in s.journal) face s

-- datagrams come at a face, in order
unfoldable pub steps_arriving : Face → List (List ℕ) → Standing → List JournalStep
steps_arriving face [] s = []
steps_arriving face (datagram ∷ more) s =
    step_at None (a_datagram face (segment_of datagram)) s ++ steps_arriving face more (arrives face datagram s)

-- once the clocks are read: pieces of earlier runs are to be added at the old face and then at the new one, time
-- passes, and then the half's datagrams come
abbrev pub steps_heard : Face → Came → Standing → List JournalStep
steps_heard face came s =
    steps_again Old s
    ++ (steps_again New (resumes_at Old s)
    ++ (step_at None a_tick (resumes s) ++ steps_arriving face came.datagrams (ticks (resumes s))))

abbrev pub steps_in : Face → Came → Standing → List JournalStep
steps_in face came s = steps_heard face came (reads came.reading s)

-- ---- in a run

-- those of some halves, in order
unfoldable pub steps_over : (board : Bool) → Face → List Came → Standing → List JournalStep
steps_over board face [] s = []
steps_over board face (came ∷ more) s =
    steps_in face came s ++ steps_over board (other_of face) more (half board face came s).standing

-- all steps of a run, and of its next half
abbrev pub steps_of : Face → Came → Run → List JournalStep
steps_of face came r =
    steps_over r.board Old r.comes (begins_at r) ++ steps_in face came (stands_at r)

-- ---- they are all of them

-- the same is known, whatever numbers are reserved
pub record KnowSame (before after : PeerKeeping) : Type 0 where
  pub pending : (after.kept).pending ≡ (before.kept).pending
  pub marks : (after.kept).marks ≡ (before.kept).marks
  pub greatest : (after.kept).greatest ≡ (before.kept).greatest
  pub waiting : after.waiting ≡ before.waiting
  pub named : after.named ≡ before.named

-- what is known before each of some steps is what is known after the one before it
abbrev pub InTurn : PeerKeeping → List JournalStep → PeerKeeping → Type 0
InTurn from [] to = KnowSame from to
InTurn from (step ∷ more) to = KnowSame from step.keeping × InTurn (known_then step) more to

-- So it is with those of a run, from what it knows when it begins to what it knows after its next half: nothing else
-- changes that, but for the numbers that each half reserves.
abbrev pub StepsInTurn : Type 0
StepsInTurn =
    (r : Run) (face : Face) (came : Came)
    → IfSome (begins_at r).journal (λ first.
    IsSomeAnd (reserves (hears face came (stands_at r))).journal (λ last.
    InTurn (first.recorded).keeping (steps_of face came r) (last.recorded).keeping))
