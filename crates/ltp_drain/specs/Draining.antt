-- A drain, step by step: whatever was sent since it began is delivered, the clock moves, and ends
-- may submit more.

use Rattle.std.specs.Prelude.{◌≡◌, ℕ, ◌<◌, ◌≤◌, List, [], ◌∷◌, ◌++◌, length, drop, Option, None}
use Rattle.std.specs.Prelude.{Some, ◌⊎◌, if◌then◌else◌}
use Rattle.ltp_session.specs.Engine.{Party}
use Rattle.ltp_session.specs.World.{End, Sent, World, arrival, clock, happens, other, submit}
use Rattle.ltp_laws.specs.View.{same_end}
use Rattle.ltp_drain.specs.Clean.{link_deadline}
use Rattle.ltp_drain.specs.Hopeful.{Room}

-- a world, and what was sent since the drain began and isn't delivered yet, in order
pub record Draining : Type 0 where
  pub world : World
  pub new : List Sent

-- a drain begins: what was sent before is lost
abbrev pub begins_at : World → Draining
begins_at w = record { world = w; new = [] }

-- ---- the oldest segment of an end

-- it, and the others
pub record Oldest : Type 0 where
  pub first : Sent
  pub others : List Sent

abbrev pub behind : Sent → Option Oldest → Option Oldest
behind d None = None
behind d (Some o) = Some (record { first = o.first; others = d ∷ o.others })

unfoldable pub oldest : End → List Sent → Option Oldest
oldest from [] = None
oldest from (d ∷ ds) =
    if same_end d.from from then Some (record { first = d; others = ds })
    else behind d (oldest from ds)

-- ---- steps

-- the oldest new segment of an end comes to the other; the clock is set; an end submits a block
pub data DrainStep : Type 0 where
  takes_oldest : End → DrainStep
  sets_clock : ℕ → DrainStep
  submits_block : End → List ℕ → ℕ → DrainStep

-- what is sent in a world that comes after another
abbrev pub since : World → World → List Sent
since w w' = drop (length w.sent) w'.sent

-- a drain in the next world; of what was new these are left
abbrev pub next_draining : Draining → List Sent → World → Draining
next_draining d left w' = record { world = w'; new = left ++ since d.world w' }

abbrev pub oldest_comes : Party × Party → Draining → End → Option Oldest → Draining
oldest_comes parties d from None = d
oldest_comes parties d from (Some o) =
    next_draining d o.others (arrival parties d.world (other from) o.first.segment)

abbrev pub after_step : Party × Party → Draining → DrainStep → Draining
after_step parties d (takes_oldest from) = oldest_comes parties d from (oldest from d.new)
after_step parties d (sets_clock now) =
    next_draining d d.new (happens parties d.world (clock now))
after_step parties d (submits_block end block red) =
    next_draining d d.new (happens parties d.world (submit end block red))

-- a moment before one, where there is one
abbrev pub IsBefore : ℕ → Option ℕ → Type 0
IsBefore now None = Unit {0}
IsBefore now (Some first) = now < first

-- there is an oldest segment; the clock doesn't go back, and nothing is new or no timer is due
-- yet; room is left after a submit
abbrev pub MayHappen : Party × Party → Draining → DrainStep → Type 0
MayHappen parties d (takes_oldest from) = (o : Oldest) × (oldest from d.new ≡ Some o)
MayHappen parties d (sets_clock now) =
    (d.world.now ≤ now) × ((d.new ≡ []) ⊎ IsBefore now (link_deadline d.world))
MayHappen parties d (submits_block end block red) =
    Room (happens parties d.world (submit end block red))
