-- What the calls of a path world promise: each is one event of every run where the world stands.

use Rattle.std.specs.Prelude.{◌≡◌, ℕ, ◌<◌, ◌≤◌, true, false, List, [], ◌∷◌, ◌++◌, length, Result}
use Rattle.std.specs.Prelude.{Ok, Err}
use Rattle.ltp_session.specs.Engine.{EngineStep, SubmitFault}
use Rattle.ltp_engine.specs.declared.refused.SubmitRefused.{SubmitRefused}
use Rattle.ltp_engine.specs.declared.refused.SubmitRefused.TheVariants as causes
use Rattle.ltp_engine.specs.Steps.{IsFault, IsNoFault}
use Rattle.ltp_world.specs.declared.refused.DeliverRefused.{DeliverRefused}
use Rattle.ltp_world.specs.declared.refused.DeliverRefused.TheVariants as refused
use Rattle.path_laws.specs.declared.effects.PathEffects.{PathEffects}
use Rattle.path_laws.specs.declared.places.PathEnd.{PathEnd}
use Rattle.path_laws.specs.Path.{PathEvent, sends, delivers, clock_shows, path_step, sends_block}
use Rattle.path_world.specs.Shows.{ShowsRun, path_after}
use Rattle.path_world.specs.Values.{PathValue, setup_of, effects_told, nothing_told}

-- wherever the old world stands, an event happens: the new one stands after it, and the effects are
-- those of the definition's step
pub record Happens (old new : PathValue) (event : PathEvent) (effects : PathEffects) : Type 0 where
  pub whole : new.spent ≡ false
  pub setup : setup_of new ≡ setup_of old
  pub run :
      (start : ℕ) (events : List PathEvent) → ShowsRun old start events
      → ShowsRun new start (events ++ event ∷ [])
  pub told :
      (start : ℕ) (events : List PathEvent) → ShowsRun old start events
      → effects
      ≡ effects_told (length old.sent)
      (path_step (setup_of old) (path_after old start events) event).effects

-- nothing is done, and the event counts as one at which nothing happens
pub record Stays (old new : PathValue) (event : PathEvent) : Type 0 where
  pub same : new ≡ old
  pub happens : Happens old new event nothing_told

-- ---- a bundle is sent

-- what holds of the engine's step in every run where the world stands
abbrev pub OfSend :
    (Result EngineStep SubmitFault → Type 0) → PathValue → PathEnd → List ℕ → Type 0
OfSend P v end bundle =
    (start : ℕ) (events : List PathEvent) → ShowsRun v start events
    → P (sends_block (setup_of v) (path_after v start events) end bundle)

-- it is sent; or want of memory ends a send that is no fault; or it is refused for the first fault
-- that there is
abbrev pub Sends :
    PathValue → PathValue → PathEnd → List ℕ → Result PathEffects SubmitRefused → Type 0
Sends old new end bundle (Ok effects) =
    Happens old new (sends end bundle) effects × OfSend IsNoFault old end bundle
Sends old new end bundle (Err causes.Memory) =
    (new.spent ≡ true) × OfSend IsNoFault old end bundle
Sends old new end bundle (Err cause) =
    Stays old new (sends end bundle) × OfSend (IsFault cause) old end bundle

-- ---- a datagram is delivered

-- datagram k comes to the place across its link, where there is one; else nothing happens
abbrev pub Delivers :
    PathValue → PathValue → ℕ → Result PathEffects DeliverRefused → Type 0
Delivers old new k (Ok effects) =
    (k < length old.sent) × Happens old new (delivers k) effects
Delivers old new k (Err refused.NoSuchDatagram) =
    (length old.sent ≤ k) × Stays old new (delivers k)
Delivers old new k (Err refused.Memory) = (k < length old.sent) × (new.spent ≡ true)

-- ---- the clock is set

-- a clock that would go back stays
pub record Ticks (old new : PathValue) (now : ℕ) (effects : PathEffects) : Type 0 where
  pub happens : Happens old new (clock_shows now) effects
  pub back : now < old.moment → Stays old new (clock_shows now)
