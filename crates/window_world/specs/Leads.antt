-- What one call inside a drain does.

use Rattle.std.specs.Prelude.{◌≡◌, ℕ, false, List, ◌++◌}
use Rattle.ltp_session.specs.Engine.{Party}
use Rattle.ltp_session.specs.World.{Event, World}
use Rattle.ltp_drain.specs.Clean.{AreClean, passed}
use Rattle.ltp_world.specs.Drain.{InEveryRun}
use Rattle.ltp_world.specs.Shows.{ShowsRun, link_after}
use Rattle.ltp_world.specs.Values.{WorldValue, parties_of}
use Rattle.contact_plan.specs.declared.window.Window.{Window}
use Rattle.window_world.specs.declared.effects.At.{At}
use Rattle.window_world.specs.Drain.{GoOn, HappenAt}
use Rattle.window_world.specs.Values.{WindowValue}

-- from a link after some events, of whose segments c are delivered or lost, clean events at these
-- moments lead to where the new world stands and d are
pub record LeadsAt
    (plan : List Window) (parties : Party × Party) (w : World) (new : WorldValue) (c d : ℕ)
    (ats : List At) (events : List Event) : Type 0 where
  pub made : List Event
  pub clean : AreClean parties w c made
  pub reaches : passed c made ≡ d
  pub moments : HappenAt plan parties w made ats
  pub shows : ShowsRun new (events ++ made)

-- what was told before, and after that what the ends did at these moments
pub record LeadsOn (old new : WindowValue) (c d : ℕ) (before now : List At) : Type 0 where
  pub whole : new.spent ≡ false
  pub plan : new.plan ≡ old.plan
  pub ats : List At
  pub told : now ≡ before ++ ats
  pub moments : GoOn old.plan old.moment new.moment ats
  pub run :
      InEveryRun
      (λ events. LeadsAt old.plan (parties_of old.link) (link_after old.link events) new.link c d ats
      events) old.link new.link
