-- What a drain of one link promises.

use Rattle.std.specs.Prelude.{◌≡◌, ℕ, ◌≤◌, false, List, length, None, Some, ◌⊎◌}
use Rattle.ltp_segment.specs.declared.session.Note.TheVariants as notes
use Rattle.ltp_session.specs.Engine.{Party}
use Rattle.ltp_session.specs.Receiver.{Receiving, is_cancelling}
use Rattle.ltp_session.specs.World.{ArePeers, End, Event, World, other, run}
use Rattle.ltp_laws.specs.View.{view}
use Rattle.ltp_drain.specs.Clean.{AreCleanFrom, CleanRun}
use Rattle.ltp_drain.specs.Effects.{IsHandedUp, IsNoted, effects_in}
use Rattle.ltp_drain.specs.Hopeful.{IsHanded, IsKeptSender, AreAlike, Hopeful, IsReached, Room, cost}

-- a world from which a drain completes its sessions
pub record IsReady (parties : Party × Party) (w : World) : Type 0 where
  pub peers : ArePeers parties
  pub alike : AreAlike parties
  pub reached : IsReached parties w
  pub hopeful : Hopeful parties w
  pub room : Room w

-- what became of the sessions of w once these events led to v: each that was open at its sender
-- was noted there as sent; its red part had been handed up in w, or was in an event since; no
-- sender is kept in v, and no receiver is cancelling
pub record IsComplete (parties : Party × Party) (w : World) (events : List Event) (v : World)
    : Type 0 where
  pub sent :
      (o : End) (n : ℕ) → IsKeptSender (view parties w o n).sender
      → IsNoted (effects_in parties w events) o (notes.Sent n)
  pub handed :
      (o : End) (n : ℕ) → IsKeptSender (view parties w o n).sender
      → IsHanded (view parties w o n).receiver
      ⊎ IsHandedUp (effects_in parties w events) (other o) n
  pub no_sender : (o : End) (n : ℕ) → (view parties v o n).sender ≡ None
  pub no_cancel :
      (o : End) (n : ℕ) (r : Receiving) → (view parties v o n).receiver ≡ Some r
      → is_cancelling r.phase ≡ false

-- a clean run from a world that has no more events than its sessions cost
pub record HasCleanRun (parties : Party × Party) (w : World) : Type 0 where
  pub n : ℕ
  pub v : World
  pub run : CleanRun parties w n v
  pub bound : n ≤ cost parties w v

-- ---- the laws

-- no list of clean events is longer than the cost
abbrev pub CleanEventsAreFew : Type 0
CleanEventsAreFew =
    (parties : Party × Party) (w : World) (events : List Event) → IsReady parties w
    → AreCleanFrom parties w events
    → length events ≤ cost parties w (run parties w events)

-- there is a clean run
abbrev pub CleanRunsEnd : Type 0
CleanRunsEnd = (parties : Party × Party) (w : World) → IsReady parties w → HasCleanRun parties w

-- and it completes the sessions
abbrev pub CleanRunsComplete : Type 0
CleanRunsComplete =
    (parties : Party × Party) (w : World) (n : ℕ) (v : World) → IsReady parties w
    → (drain : CleanRun parties w n v) → IsComplete parties w drain.events v
