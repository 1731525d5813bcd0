-- Clean events, one after the other.

use Rattle.std.proofs.Common.{◌≡◌, ℕ, List, [], ◌∷◌, ◌++◌, Some}
use Rattle.ltp_session.specs.Engine.{Party}
use Rattle.ltp_session.specs.World.{Event, World, happens, run}
use Rattle.ltp_drain.specs.Clean.{AreClean, clean_event, passed, passed_after}

pub clean-more : (parties : Party × Party) (w : World) (c : ℕ) (events : List Event)
    (event : Event) → AreClean parties w c events
    → clean_event (run parties w events) (passed c events) ≡ Some event
    → AreClean parties w c (events ++ event ∷ [])
clean-more parties w c [] event clean next = (next, tt)
clean-more parties w c (first ∷ events) event clean next = (
  clean.0,
  clean-more parties (happens parties w first) (passed_after c first) events event clean.1 next,
)
