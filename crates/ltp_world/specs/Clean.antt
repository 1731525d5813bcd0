-- What one call inside a drain does.

use Rattle.std.specs.Prelude.{◌≡◌, ℕ, ◌≤◌, ◌^◌, true, List, [], ◌∷◌, ◌++◌, length, map, Option}
use Rattle.std.specs.Prelude.{None, Some, Result, Ok, Err}
use Rattle.std.specs.List.{AllByRecursion}
use Rattle.ltp_session.specs.Engine.{Party, earlier}
use Rattle.ltp_session.specs.World.{Event, World}
use Rattle.ltp_drain.specs.Clean.{AreClean, passed}
use Rattle.ltp_engine.specs.Steps.{deadline_of}
use Rattle.ltp_world.specs.declared.effects.EndEffects.{EndEffects}
use Rattle.ltp_drain.specs.Effects.{effects_at}
use Rattle.ltp_world.specs.declared.refused.DrainRefused.{DrainRefused}
use Rattle.ltp_world.specs.declared.refused.DrainRefused.TheVariants as causes
use Rattle.ltp_world.specs.Drain.{IsEarly, InEveryRun, done_in, told_of}
use Rattle.ltp_world.specs.Shows.{ShowsRun, link_after}
use Rattle.ltp_world.specs.Values.{WorldValue, parties_of}

-- when a timer of the world is due next
abbrev pub deadline_in : WorldValue → Option ℕ
deadline_in v = earlier (deadline_of v.engines.0) (deadline_of v.engines.1)

-- from a link after some events, of whose segments c are delivered or lost, clean events lead to
-- where the new world stands and d are; what the ends did is told after what was told before
pub record LeadsIn
    (parties : Party × Party) (w : World) (new : WorldValue) (c d : ℕ)
    (before now : List (List EndEffects)) (events : List Event) : Type 0 where
  pub made : List Event
  pub clean : AreClean parties w c made
  pub reaches : passed c made ≡ d
  pub early : AllByRecursion IsEarly made
  pub told : now ≡ before ++ done_in parties w made
  pub shows : ShowsRun new (events ++ made)

abbrev pub LeadsOn :
    WorldValue → WorldValue → ℕ → ℕ → List (List EndEffects) → List (List EndEffects) → Type 0
LeadsOn old new c d before now =
    InEveryRun
    (λ events. LeadsIn (parties_of old) (link_after old events) new c d before now events) old new

-- ---- one event

-- after a run an event happens, and what the ends do is told after what was told before
pub record TellsEvent (parties : Party × Party) (w : World) (new : WorldValue) (event : Event)
    (before now : List (List EndEffects)) (events : List Event) : Type 0 where
  pub told : now ≡ before ++ map told_of (effects_at parties w event) ∷ []
  pub shows : ShowsRun new (events ++ event ∷ [])

abbrev pub TakesEvent :
    WorldValue → WorldValue → Event → List (List EndEffects) → List (List EndEffects) → Type 0
TakesEvent old new event before now =
    InEveryRun
    (λ events. TellsEvent (parties_of old) (link_after old events) new event before now events)
    old new

-- ---- to the end

-- clean events lead on until nothing is left to do, or until the next one is too late
pub record LeadsToLate (old new : WorldValue) (from : ℕ) (before : List (List EndEffects))
    : Type 0 where
  pub now : List (List EndEffects)
  pub leads : LeadsOn old new from (length new.sent) before now
  pub deadline : ℕ
  pub due : deadline_in new ≡ Some deadline
  pub late : 2 ^ 62 ≤ deadline

abbrev pub DrainsOn :
    WorldValue → WorldValue → ℕ → List (List EndEffects) → List (List EndEffects)
    → Result (Unit {0}) DrainRefused → Type 0
DrainsOn old new from before now (Ok done) =
    LeadsOn old new from (length new.sent) before now × (deadline_in new ≡ None)
DrainsOn old new from before now (Err causes.TooLate) = LeadsToLate old new from before
DrainsOn old new from before now (Err causes.Memory) = new.spent ≡ true
