-- What every call keeps of a link with windows.

use Rattle.std.specs.Prelude.{◌≡◌, ℕ, ◌<◌, ◌^◌, ◌||◌, Bool, false, List}
use Rattle.ltp_world.specs.Shows.{Stands}
use Rattle.ltp_world.specs.Values.{WorldValue}
use Rattle.contact_plan.specs.declared.window.Window.{Window}
use Rattle.contact_plan.specs.Windows.{IsPlan}
use Rattle.window_world.specs.Values.{RunsOnContact, WindowValue}

-- a world of these parts; memory ran out in it, or in its link
abbrev pub made_world : Bool → WorldValue → List Window → ℕ → WindowValue
made_world broken link plan moment =
    record { spent = broken || link.spent; link = link; plan = plan; moment = moment }

-- a moment below 2^62, a plan, and a link that some run leads to, at contact time
pub record IsSound (v : WindowValue) : Type 0 where
  pub moment : v.moment < 2 ^ 62
  pub plan : IsPlan v.plan
  pub stands : v.link.spent ≡ false → Stands v.link
  pub contact : RunsOnContact v
