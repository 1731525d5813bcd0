-- While a link is closed contact time stands still, and no timer is due that wasn't due before.

use Rattle.std.specs.Prelude.{◌≡◌, ℕ, ◌≤◌, ◌<◌, false, List}
use Rattle.ltp_engine.specs.Effects.{nothing_done}
use Rattle.ltp_world.specs.declared.effects.EndEffects.{EndEffects}
use Rattle.ltp_world.specs.Values.{both_ends}
use Rattle.contact_plan.specs.declared.window.Window.{Window}
use Rattle.contact_plan.specs.Windows.{elapsed, is_open}

-- no end does anything
abbrev pub both_quiet : List EndEffects
both_quiet = both_ends nothing_done nothing_done

-- contact time is the same at two moments where the link is closed from one to the other
abbrev pub GapsStandStill : Type 0
GapsStandStill =
    (plan : List Window) (t u : ℕ) → t ≤ u
    → ((m : ℕ) → t ≤ m → m < u → is_open plan m ≡ false) → elapsed plan u ≡ elapsed plan t
