-- When a red part can be handed up twice at a face in a run.

use Rattle.std.specs.Prelude.{◌≡◌, ℕ, ◌+◌, ◌^◌, ◌<◌, ◌≤◌, ◌==◌, true, false}
use Rattle.std.specs.Prelude.{List, ◌∷◌, ◌++◌, Result, IfSome}
use Rattle.std.specs.List.{AllByRecursion, list_any}
use Rattle.ltp_segment.specs.declared.fault.SegmentCause.{SegmentCause}
use Rattle.ltp_segment.specs.Values.{SegmentValue}
use Rattle.ltp_session.specs.Engine.{UpValue, is_closed}
use Rattle.ltp_laws.specs.View.{IsIn}
use Rattle.gate_cases.specs.declared.face.Face.{Face}
use Rattle.gateway_core.specs.Gate.{at_face}
use Rattle.journal_file.specs.Legal.{IsLegal}
use Rattle.peer_sessions.specs.Runs as faces
use Rattle.peer_once.specs.Runs.{TimedEvent, AreInOrder, EachOf, ForgetsNothing, SomeOf}
use Rattle.peer_once.specs.Runs.{hands_up, sessions_in, ups_with}
use Rattle.peer_once.specs.Laws.{OpensAnew}
use Rattle.peer_once.specs.Uses.{IsInUse, Use}
use Rattle.peer_half.specs.Setup.{IsRunnable}
use Rattle.peer_half.specs.Runs.{EventIn, Run, marked_before}
use Rattle.peer_session_laws.specs.Events.{ups_at}
use Rattle.peer_session_laws.specs.Runs.{IsPast, beginning_of, face_in, happened_at}

-- The moments of a face don't fall in a run.
abbrev pub MomentsInOrder : Type 0
MomentsInOrder = (r : Run) (at : Face) → AreInOrder (happened_at r at)

-- Where a red part is handed up with two events of a face, its session opened anew after the first of them, at the
-- latest with the second: it wasn't there in the time for which a number is remembered, or it was forgotten since
-- then before its time, and that was told.
abbrev pub HandedUpOnceInRuns : Type 0
HandedUpOnceInRuns = (r : Run) (at : Face) (n : ℕ) (second first : TimedEvent) (between earlier : List TimedEvent)
    → n < 2 ^ 64 → IsRunnable r.file → IsPast r at (second ∷ (between ++ (first ∷ earlier)))
    → hands_up (face_in r at) n first earlier ≡ true
    → hands_up (face_in r at) n second (between ++ (first ∷ earlier)) ≡ true
    → SomeOf (OpensAnew (face_in r at) n) (second ∷ between) (first ∷ earlier)

-- Where no runs are forgotten before their time, a red part isn't handed up twice within the time.
abbrev pub HandedUpApartInRuns : Type 0
HandedUpApartInRuns = (r : Run) (at : Face) (n : ℕ) (second first : TimedEvent) (between earlier : List TimedEvent)
    → n < 2 ^ 64 → IsPast r at (second ∷ (between ++ (first ∷ earlier)))
    → EachOf (ForgetsNothing (face_in r at)) between (first ∷ earlier)
    → hands_up (face_in r at) n first earlier ≡ true
    → hands_up (face_in r at) n second (between ++ (first ∷ earlier)) ≡ true
    → first.0 + (face_in r at).keys.remember_ms ≤ second.0

-- Of a peer that uses a number again, each time for one block: the red part of a use that is shorter than the time
-- is handed up once at most, where no runs are forgotten before their time.
abbrev pub UsedOnceInRuns : Type 0
UsedOnceInRuns = (r : Run) (at : Face) (n : ℕ) (u : Use)
    → (second first : TimedEvent) (between earlier : List TimedEvent)
    → n < 2 ^ 64 → IsPast r at (second ∷ (between ++ (first ∷ earlier)))
    → EachOf (ForgetsNothing (face_in r at)) between (first ∷ earlier)
    → u.to < u.from + (face_in r at).keys.remember_ms → u.from ≤ first.0 → second.0 ≤ u.to
    → hands_up (face_in r at) n first earlier ≡ true
    → hands_up (face_in r at) n second (between ++ (first ∷ earlier)) ≡ true → ⊥

-- Where a use begins more than that time after the one before it, what is handed up in it is what was sent in it.
abbrev pub HandedUpAsSentInRuns : Type 0
HandedUpAsSentInRuns = (r : Run) (at : Face) (n now : ℕ) (u : Use) (read : Result SegmentValue (ℕ × SegmentCause))
    → (earlier : List TimedEvent) (body : List ℕ)
    → IsRunnable r.file → IsPast r at ((now, faces.a_datagram read) ∷ earlier)
    → AllByRecursion (IsInUse (face_in r at) n u) ((now, faces.a_datagram read) ∷ earlier) → u.from ≤ now
    → IsIn (record { session = n; body = body })
    (ups_with (face_in r at).keys now (faces.a_datagram read) (sessions_in (face_in r at) earlier))
    → body ≡ u.red

-- ---- sessions that are marked when a run begins

-- What is passed on is of other sessions: earlier runs had claimed these in part. What they kept is legal, as what is
-- read of a journal is.
abbrev pub NoneOfTheMarkedInRuns : Type 0
NoneOfTheMarkedInRuns = (r : Run) (at : Face) (n : ℕ) (event : EventIn) (earlier : List EventIn)
    → IfSome r.kept IsLegal → is_closed n (at_face (marked_before r) at) ≡ true
    → list_any (λ (up : UpValue). up.session == n) (ups_at (beginning_of r) at event earlier) ≡ false
