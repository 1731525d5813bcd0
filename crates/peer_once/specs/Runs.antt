-- What happens at a face from its beginning on, and what it is for one session of the peer.

use Rattle.std.specs.Prelude.{◌≡◌, ℕ, ◌+◌, ◌/◌, ◌<◌, ◌≤◌, Bool, true, false, not, ◌==◌, ◌&&◌, ◌||◌, List, [], ◌∷◌, ◌++◌, Option, None, is_some, Ok, Err, ◌⊎◌}
use Rattle.std.specs.List.{list_any, AllByRecursion}
use Rattle.ltp_session.specs.Engine.{UpValue}
use Rattle.ltp_engine.specs.Sessions.{is_receiving}
use Rattle.session_memory.specs.Numbers.{has, runs_in}
use Rattle.session_memory.specs.Memory.{is_remembered}
use Rattle.peer_sessions.specs.Keys.{FaceKeys}
use Rattle.peer_sessions.specs.Sessions.{Sessions, passes, is_of_peer, may_open, hears, ticks, block_begins}
use Rattle.peer_sessions.specs.Runs.{SessionsEvent, a_datagram, a_tick, a_block, sessions_after}

-- ---- events

-- a face: what is set for it, the moment at which it begins, and the numbers that it remembers for good
pub record Face : Type 0 where
  pub keys : FaceKeys
  pub start : ℕ
  pub marks : List ℕ

-- an event, after its moment
abbrev pub TimedEvent : Type 0
TimedEvent = ℕ × SessionsEvent

-- the sessions after some events, the newest first
abbrev pub sessions_in : Face → List TimedEvent → Sessions
sessions_in f events = sessions_after f.keys f.start f.marks events

-- and once time has passed until a moment: what a datagram finds that comes then
abbrev pub sessions_at : Face → List TimedEvent → ℕ → Sessions
sessions_at f events now = passes f.keys now (sessions_in f events)

-- their moments don't fall
abbrev pub AreInOrder : List TimedEvent → Type 0
AreInOrder [] = Unit {0}
AreInOrder (event ∷ earlier) = AllByRecursion (λ (e : TimedEvent). e.0 ≤ event.0) earlier × AreInOrder earlier

-- each comes from one moment on and before another
abbrev pub ComeBetween : ℕ → ℕ → List TimedEvent → Type 0
ComeBetween from to events = AllByRecursion (λ (e : TimedEvent). (from ≤ e.0) × (e.0 < to)) events

-- of the events since some earlier ones, with those before it, one is such
abbrev pub SomeOf : (TimedEvent → List TimedEvent → Type 0) → List TimedEvent → List TimedEvent → Type 0
SomeOf Is [] earlier = ⊥
SomeOf Is (event ∷ since) earlier = Is event (since ++ earlier) ⊎ SomeOf Is since earlier

-- each of them is
abbrev pub EachOf : (TimedEvent → List TimedEvent → Type 0) → List TimedEvent → List TimedEvent → Type 0
EachOf Is [] earlier = Unit {0}
EachOf Is (event ∷ since) earlier = Is event (since ++ earlier) × EachOf Is since earlier

-- ---- what is told of an event

-- the red parts that are handed up with it
abbrev pub ups_with : FaceKeys → ℕ → SessionsEvent → Sessions → List UpValue
ups_with k now (a_datagram read) s = (hears k s read now).effects.ups
ups_with k now a_tick s = (ticks k s now).effects.ups
ups_with k now (a_block block) s = (block_begins k s.engine block now).effects.ups

-- how many runs of numbers are forgotten with it before their time
abbrev pub forgotten_with : FaceKeys → ℕ → SessionsEvent → Sessions → Option ℕ
forgotten_with k now (a_datagram read) s = (hears k s read now).forgotten
forgotten_with k now a_tick s = (ticks k s now).forgotten
forgotten_with k now (a_block block) s = None

-- it forgets none
abbrev pub ForgetsNothing : Face → TimedEvent → List TimedEvent → Type 0
ForgetsNothing f event earlier = forgotten_with f.keys event.0 event.1 (sessions_in f earlier) ≡ None

-- ---- one session of the peer

-- it is kept: it is being received, or waits for the acknowledgement of its report or its cancel
abbrev pub is_kept : ℕ → Sessions → Bool
is_kept n s = is_receiving n (s.engine).receivers

-- it is kept, or it is over and remembered
abbrev pub is_known : ℕ → Sessions → Bool
is_known n s = is_kept n s || is_remembered s.memory n

-- a segment of it comes
abbrev pub brings : FaceKeys → ℕ → SessionsEvent → Bool
brings k n (a_datagram (Ok segment)) = is_of_peer k segment.originator && (segment.session == n)
brings k n (a_datagram (Err refusal)) = false
brings k n a_tick = false
brings k n (a_block block) = false

-- a red piece of it comes, which may be one of a block
abbrev pub brings_red : FaceKeys → ℕ → SessionsEvent → Bool
brings_red k n (a_datagram (Ok segment)) =
    is_of_peer k segment.originator && ((segment.session == n) && may_open (k.party).most segment.content)
brings_red k n (a_datagram (Err refusal)) = false
brings_red k n a_tick = false
brings_red k n (a_block block) = false

-- With an event it opens: a red piece of it comes, and once time has passed it is neither kept nor
-- remembered.
abbrev pub opens : Face → ℕ → TimedEvent → List TimedEvent → Bool
opens f n event earlier = brings_red f.keys n event.1 && not (is_known n (sessions_at f earlier event.0))

-- with an event its red part is handed up
abbrev pub hands_up : Face → ℕ → TimedEvent → List TimedEvent → Bool
hands_up f n event earlier =
    list_any (λ (up : UpValue). up.session == n) (ups_with f.keys event.0 event.1 (sessions_in f earlier))

-- It is there at an event: it was kept before, so also where it is over then; or a red piece of it comes.
abbrev pub is_there : Face → ℕ → TimedEvent → List TimedEvent → Bool
is_there f n event earlier = is_kept n (sessions_in f earlier) || brings_red f.keys n event.1

-- With an event it is forgotten before its time, and that is told: it is one of the older numbers, which a
-- turn forgets, and none of the newer ones. These are so many runs that there is no place for another number;
-- and all of them went there since the turn before, which left none.
pub record IsForgotten (f : Face) (n : ℕ) (event : TimedEvent) (earlier : List TimedEvent) : Type 0 where
  pub told : is_some (forgotten_with f.keys event.0 event.1 (sessions_in f earlier)) ≡ true
  pub older : has ((sessions_at f earlier event.0).memory).older n ≡ true
  pub newer : has ((sessions_at f earlier event.0).memory).newer n ≡ false
  pub places : f.keys.remember / 2 ≤ runs_in ((sessions_at f earlier event.0).memory).newer + (f.keys.bounds).sessions
