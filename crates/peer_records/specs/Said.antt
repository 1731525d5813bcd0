-- What the journal says, and the records of a half, as the code makes them: one kind after the other.

use Rattle.std.specs.Prelude.{◌≡◌, ℕ, ◌<◌, ◌==◌, Bool, true, false, not, ◌&&◌, nat_lt, nat_le, List, [], ◌∷◌, ◌++◌, map, Option, None, Some}
use Rattle.std.specs.List.{filter, list_any}
use Rattle.gate_cases.specs.declared.face.Face.{Face}
use Rattle.gateway_core.specs.Gate.{at_face}
use Rattle.gate_events.specs.Own.{OpenAt}
use Rattle.journal_file.specs.declared.kept.Pending.{Pending}
use Rattle.journal_file.specs.Values.{KeptValue, RecordValue, a_begun, a_done, a_mark, a_clear, a_reserved}
use Rattle.journal_file.specs.Keeping.{same_face, kept_after}
use Rattle.journal_file.specs.Legal.{AreUpTo}
use Rattle.peer_gateway.specs.Gate.{AddedAt}
use Rattle.peer_events.specs.Own.{own_seen}
use Rattle.peer_records.specs.declared.record.StepRecord.{StepRecord}
use Rattle.peer_records.specs.declared.record.StepRecord.TheVariants as records
use Rattle.peer_records.specs.declared.step.StepDone.{StepDone}
use Rattle.peer_records.specs.declared.ending.Ended.{Ended}
use Rattle.peer_records.specs.Happened.{PeerHappened}
use Rattle.peer_records.specs.Keeping.{ids_pending, to_add_at}
use Rattle.peer_records.specs.Records.{Going}
use Rattle.peer_records.specs.Halves.{PeerRecorded}

-- what a step did, where these own sessions are open after it, and these of the peers were handed up
abbrev pub happened_by : StepDone → OpenAt → OpenAt → PeerHappened
happened_by s is_open is_handed_up = record {
  wall = s.wall;
  own = map own_seen s.own.now;
  is_open = is_open;
  is_handed_up = is_handed_up;
  out = (s.answer.now).out;
  told = (s.answer.now).told;
  again = s.again;
  added = (s.answer.now).added;
  begun = (s.answer.now).begun;
}

-- ---- records

abbrev pub said_by : StepRecord → RecordValue
said_by (records.Begun p) = a_begun p
said_by (records.Done id how) = a_done id how
said_by (records.Marked mark) = a_mark mark
said_by (records.Clear face session) = a_clear face session
said_by (records.Reserved face number) = a_reserved face number

-- what the journal says, once the records are in it, and those that are to be committed
pub record SaidValue : Type 0 where
  pub kept : KeptValue
  pub records : List RecordValue

-- records more are appended, and done to what is kept
abbrev pub said_with : List RecordValue → SaidValue → SaidValue
said_with records s = record { kept = kept_after s.kept records; records = s.records ++ records }

-- with where the pieces are
abbrev pub shown : SaidValue → Going → PeerRecorded
shown s g = record {
  keeping = record { kept = s.kept; waiting = g.waiting; named = g.named };
  records = s.records;
}

-- ---- pieces that end

abbrev pub done_of : Ended → RecordValue
done_of e = a_done e.id e.how

abbrev pub ids_ended : List Ended → List ℕ
ids_ended ended = map (λ (e : Ended). e.id) ended

abbrev pub is_among : List ℕ → ℕ → Bool
is_among ids id = list_any (λ x. id == x) ids

-- pending pieces without those of these ids
abbrev pub pending_without : List ℕ → List Pending → List Pending
pending_without ids pending = filter (λ (p : Pending). not (is_among ids p.id)) pending

-- ---- the order of pending pieces

-- ids rise from above this one
abbrev pub AreRising : ℕ → List Pending → Type 0
AreRising n [] = Unit {0}
AreRising n (p ∷ pending) = (n < p.id) × AreRising p.id pending

-- and no id is above the greatest that was given
pub record IsOrdered (kept : KeptValue) : Type 0 where
  pub rising : AreRising 0 kept.pending
  pub up_to : AreUpTo kept.greatest kept.pending

-- the same as a test
unfoldable pub rises : ℕ → ℕ → List Pending → Bool
rises greatest n [] = nat_le n greatest
rises greatest n (p ∷ pending) = nat_lt n p.id && rises greatest p.id pending

-- ---- pieces of earlier runs that are still to be added

-- of pending pieces those of a face
abbrev pub ids_at : Face → List Pending → List ℕ
ids_at face pending = ids_pending (filter (λ (p : Pending). same_face p.face face) pending)

-- ids rise from above this one
abbrev pub Rise : ℕ → List ℕ → Type 0
Rise n [] = Unit {0}
Rise n (id ∷ ids) = (n < id) × Rise id ids

-- the code's ids of those that are still to be added are these
pub record IsTied (s : SaidValue) (g : Going) (ids : List ℕ × List ℕ) : Type 0 where
  pub ordered : IsOrdered s.kept
  pub to_add : (face : Face) → at_face ids face ≡ ids_pending (to_add_at face (shown s g).keeping)

-- those of each face rise, and none is of both
pub record AreToAdd (ids : List ℕ × List ℕ) : Type 0 where
  pub old : Rise 0 ids.0
  pub new : Rise 0 ids.1
  pub apart : (id : ℕ) → is_among ids.0 id ≡ true → is_among ids.1 id ≡ false

-- after a step: without the one that it was to add, where there was room for it
abbrev pub without_id : ℕ → List ℕ → List ℕ
without_id id ids = filter (λ x. not (x == id)) ids

abbrev pub ids_left : Option ℕ → List AddedAt → List ℕ → List ℕ
ids_left None added ids = ids
ids_left (Some id) [] ids = ids
ids_left (Some id) (a ∷ more) ids = without_id id ids
