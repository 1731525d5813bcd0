-- What a drain of a path promises.

use Rattle.std.specs.Prelude.{◌≡◌, ℕ, ◌≤◌, false, List, ◌∷◌, ◌++◌, length, None, Some, ◌⊎◌}
use Rattle.ltp_session.specs.Receiver.{Receiving, is_cancelling}
use Rattle.ltp_laws.specs.View.{IsIn}
use Rattle.ltp_drain.specs.Hopeful.{IsHanded, IsKeptSender}
use Rattle.gate_cases.specs.declared.face.Face.{Face}
use Rattle.path_laws.specs.declared.effects.UpAt.{UpAt}
use Rattle.path_laws.specs.declared.places.Place.{Place}
use Rattle.path_laws.specs.Places.{across, face_place}
use Rattle.path_laws.specs.Path.{PathSetup, Path, PathEvent, path_run, path_step}
use Rattle.path_laws.specs.Log.{Begun, begun_in, ups_in}
use Rattle.path_laws.specs.Laws.{IsLinked}
use Rattle.path_drain.specs.PathRoom.{PathRoom}
use Rattle.path_drain.specs.Pieces.{IsCaseNotedAt}
use Rattle.path_drain.specs.RoomKept.{IsOfLength, NoneForRoom}
use Rattle.path_drain.specs.Clean.{AreCleanOnPathFrom, PathCleanRun}
use Rattle.path_drain.specs.Effects.{IsNotedSent, IsShort, IsUpAt, IsUpWhole, notes_in}
use Rattle.path_drain.specs.Hopeful.{AreAlikeOnPath, IsPathReached, PathHopeful, path_cost}
use Rattle.path_drain.specs.Hopeful.{session_at}

-- ---- where it starts and ends

-- a path from which a drain completes its sessions
pub record IsPathReady (s : PathSetup) (w : Path) : Type 0 where
  pub linked : IsLinked s
  pub alike : AreAlikeOnPath s
  pub reached : IsPathReached s w
  pub hopeful : PathHopeful s w
  pub room : PathRoom s w

-- Events hand up a block at a face, and the event that does so notes its case there: what the gate
-- decides by the clock and by the room that it has at the other face as that event comes.
pub record IsCaseNotedIn
    (s : PathSetup) (w : Path) (events : List PathEvent) (face : Face) (up : UpAt) : Type 0 where
  pub earlier : List PathEvent
  pub event : PathEvent
  pub later : List PathEvent
  pub among : events ≡ earlier ++ event ∷ later
  pub hands_up : IsIn up (path_step s (path_run s w earlier) event).effects.ups
  pub noted :
      IsCaseNotedAt s (path_run s w earlier)
      (path_step s (path_run s w earlier) event).effects.notes face up

-- What became of the sessions of a path once events led from w to v.
pub record IsPathComplete (s : PathSetup) (w : Path) (events : List PathEvent) (v : Path)
    : Type 0 where
  -- each that was open at its sender in w was noted there as sent
  pub sent :
      (place : Place) (n : ℕ) → IsKeptSender (session_at s w place n).sender
      → IsNotedSent (notes_in s w events) place n
  -- its red part had been handed up in w, or was in an event since
  pub handed :
      (place : Place) (n : ℕ) → IsKeptSender (session_at s w place n).sender
      → IsHanded (session_at s w place n).receiver
      ⊎ IsUpAt (ups_in s w events) (across place) n
  -- each that an event began was noted so too, and its block was handed up whole
  pub begun_sent :
      (b : Begun) → IsIn b (begun_in s w events)
      → IsNotedSent (notes_in s w events) b.place b.session
  pub begun_handed :
      (b : Begun) → IsIn b (begun_in s w events) → IsUpWhole (ups_in s w events) b
  -- each block that was handed up at the gate has its case noted with it
  pub cases :
      (face : Face) (up : UpAt) → IsIn up (ups_in s w events) → up.place ≡ face_place face
      → IsCaseNotedIn s w events face up
  -- no session was closed to make room, and none was refused for want of it
  pub noted : NoneForRoom (notes_in s w events)
  -- a bundle was stopped for want of storage only since a piece of it is longer than a session
  -- carries
  pub storage :
      (face : Face) (n : ℕ) → IsShort (notes_in s w events) face n
      → IsOfLength s (ups_in s w events) face n
  -- no sender is kept in v, and no receiver is cancelling
  pub no_sender : (place : Place) (n : ℕ) → (session_at s v place n).sender ≡ None
  pub no_cancel :
      (place : Place) (n : ℕ) (r : Receiving) → (session_at s v place n).receiver ≡ Some r
      → is_cancelling r.phase ≡ false

-- ---- the laws

-- no list of clean events is longer than the cost
abbrev pub PathEventsAreFew : Type 0
PathEventsAreFew =
    (s : PathSetup) (w : Path) (events : List PathEvent) → IsPathReady s w
    → AreCleanOnPathFrom s w events
    → length events ≤ path_cost s w (path_run s w events)

-- a clean run from a path that has no more events than its sessions cost
pub record HasPathRun (s : PathSetup) (w : Path) : Type 0 where
  pub n : ℕ
  pub v : Path
  pub run : PathCleanRun s w n v
  pub bound : n ≤ path_cost s w v

-- there is a clean run
abbrev pub PathRunsEnd : Type 0
PathRunsEnd = (s : PathSetup) (w : Path) → IsPathReady s w → HasPathRun s w

-- n clean events are no more than the cost, and complete the sessions
pub record Completes (s : PathSetup) (w : Path) (n : ℕ) (v : Path) (events : List PathEvent)
    : Type 0 where
  pub bound : n ≤ path_cost s w v
  pub complete : IsPathComplete s w events v

abbrev pub PathRunsComplete : Type 0
PathRunsComplete =
    (s : PathSetup) (w : Path) (n : ℕ) (v : Path) → IsPathReady s w
    → (drain : PathCleanRun s w n v) → Completes s w n v drain.events
