-- A drain: clean events, one after the other, until none can follow. What was sent before it is
-- lost; whatever is sent from then on is delivered, once and in order; and the clock moves where
-- nothing is left to deliver.

use Rattle.std.specs.Option.{option_map}
use Rattle.std.specs.Prelude.{◌≡◌, ℕ, ◌+◌, nat_lt, List, [], ◌∷◌, length, Option, None, Some}
use Rattle.std.specs.Prelude.{if◌then◌else◌}
use Rattle.ltp_session.specs.Engine.{Party, earlier, next_deadline}
use Rattle.ltp_session.specs.World.{Event, World, clock, deliver, happens, run, submit}

-- when a timer of the link is due next
abbrev pub link_deadline : World → Option ℕ
link_deadline w = earlier (next_deadline w.engines.0) (next_deadline w.engines.1)

-- the clean event of a world of which the first c segments are delivered or lost: the next one is
-- delivered; where there is none, the clock is set to the earliest deadline; and where no timer
-- runs either, none
abbrev pub clean_event : World → ℕ → Option Event
clean_event w c =
    if nat_lt c (length w.sent) then Some (deliver c) else option_map clock (link_deadline w)

-- how many are delivered or lost after an event
abbrev pub passed_after : ℕ → Event → ℕ
passed_after c (submit end block red) = c
passed_after c (deliver k) = c + 1
passed_after c (clock now) = c

-- each of these events is the clean one of its world
abbrev pub AreClean : Party × Party → World → ℕ → List Event → Type 0
AreClean parties w c [] = Unit {0}
AreClean parties w c (event ∷ events) =
    (clean_event w c ≡ Some event)
    × AreClean parties (happens parties w event) (passed_after c event) events

-- how many are delivered or lost after events
abbrev pub passed : ℕ → List Event → ℕ
passed c [] = c
passed c (event ∷ events) = passed (passed_after c event) events

-- the events are clean from a world on, in which nothing is on its way
abbrev pub AreCleanFrom : Party × Party → World → List Event → Type 0
AreCleanFrom parties w events = AreClean parties w (length w.sent) events

-- nothing is left to do in a world of which the first c segments are delivered or lost: all are,
-- and no timer runs
pub record IsDrained (w : World) (c : ℕ) : Type 0 where
  pub delivered : c ≡ length w.sent
  pub no_timer : link_deadline w ≡ None

-- n clean events lead from w to v, and nothing is left to do in v
pub record CleanRun (parties : Party × Party) (w : World) (n : ℕ) (v : World) : Type 0 where
  pub events : List Event
  pub count : length events ≡ n
  pub clean : AreCleanFrom parties w events
  pub leads : run parties w events ≡ v
  pub drained : IsDrained v (passed (length w.sent) events)
