-- A link with windows as a value.

use Rattle.std.specs.Prelude.{◌≡◌, ℕ, Bool, false, List, [], ◌∷◌, nat_lt, if◌then◌else◌}
use Rattle.ltp_session.specs.World.{Event, clock}
use Rattle.ltp_world.specs.Values.{WorldValue}
use Rattle.contact_plan.specs.declared.window.Window.{Window}
use Rattle.contact_plan.specs.Windows.{elapsed}

-- whether memory ran out in a call, after which the value may only be dropped; a link world; the
-- windows in which the link is open; and the moment that the clock shows
pub record WindowValue : Type 0 where
  pub spent : Bool
  pub link : WorldValue
  pub plan : List Window
  pub moment : ℕ

-- unless memory ran out, the link world is whole and its clock shows contact time
abbrev pub RunsOnContact : WindowValue → Type 0
RunsOnContact v =
    v.spent ≡ false → (v.link.spent ≡ false) × (v.link.moment ≡ elapsed v.plan v.moment)

-- a link's events until it begins at a moment
abbrev pub begins_on : List Window → ℕ → List Event
begins_on plan now = clock (elapsed plan now) ∷ []

-- a clock that would go back stays
abbrev pub later_of : ℕ → ℕ → ℕ
later_of moment now = if nat_lt now moment then moment else now
