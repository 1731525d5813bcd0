-- What the calls of a world promise: each is one event of every run where the world stands.

use Rattle.std.specs.Prelude.{◌≡◌, ℕ, ◌<◌, ◌≤◌, true, false, List, [], ◌∷◌, ◌++◌, length, Option}
use Rattle.std.specs.Prelude.{None, Some, Result, Ok, Err, slice_get, nat_lt, if◌then◌else◌}
use Rattle.ltp_session.specs.Engine.{Party, EngineStep, SubmitFault, submits}
use Rattle.ltp_session.specs.Engine.{submit_step, datagram_step, tick_step}
use Rattle.ltp_session.specs.World.{Event, World, at_end, clock, deliver, other, submit}
use Rattle.ltp_session.specs.World.{End as LinkEnd}
use Rattle.ltp_session.specs.World.{Sent as LinkSent}
use Rattle.ltp_engine.specs.declared.effects.Effects.{Effects}
use Rattle.ltp_engine.specs.declared.refused.SubmitRefused.{SubmitRefused}
use Rattle.ltp_engine.specs.declared.refused.SubmitRefused.TheVariants as causes
use Rattle.ltp_engine.specs.Effects.{effects_of, nothing_done}
use Rattle.ltp_engine.specs.Steps.{IsFault, IsNoFault}
use Rattle.ltp_world.specs.declared.effects.EndEffects.{EndEffects}
use Rattle.ltp_world.specs.declared.ends.End.{End}
use Rattle.ltp_world.specs.declared.refused.DeliverRefused.{DeliverRefused}
use Rattle.ltp_world.specs.declared.refused.DeliverRefused.TheVariants as refused
use Rattle.ltp_world.specs.Ends.{link_end, named}
use Rattle.ltp_world.specs.Shows.{ShowsRun, link_after}
use Rattle.ltp_world.specs.Values.{WorldValue, both_ends, parties_of}

-- wherever the old world stands, an event happens, and the new one stands after it
pub record Happens (old new : WorldValue) (event : Event) : Type 0 where
  pub whole : new.spent ≡ false
  pub parties : parties_of new ≡ parties_of old
  pub run : (events : List Event) → ShowsRun old events → ShowsRun new (events ++ event ∷ [])

-- ---- a block is submitted

-- what an end's engine does with it
abbrev pub submission_at :
    Party × Party → World → LinkEnd → List ℕ → ℕ → Result EngineStep SubmitFault
submission_at parties w end block red =
    submit_step (at_end parties end) (at_end w.engines end)
    (submits (at_end parties end) (at_end w.engines end) block red w.now)

-- these are the effects of a step that is no fault
abbrev pub AreEffects : Effects → Result EngineStep SubmitFault → Type 0
AreEffects effects (Ok step) = effects ≡ effects_of step.effects
AreEffects effects (Err fault) = ⊥

-- what holds of the end's step in every run where the world stands
abbrev pub OfSubmission :
    (Result EngineStep SubmitFault → Type 0) → WorldValue → End → List ℕ → ℕ → Type 0
OfSubmission P v end block red =
    (events : List Event) → ShowsRun v events
    → P (submission_at (parties_of v) (link_after v events) (link_end end) block red)

-- it is sent; or want of memory ends a submit that is no fault; or it is refused for the first
-- fault that there is, and nothing happens
abbrev pub Submits :
    WorldValue → WorldValue → End → List ℕ → ℕ → Result Effects SubmitRefused → Type 0
Submits old new end block red (Ok effects) =
    Happens old new (submit (link_end end) block red)
    × OfSubmission (AreEffects effects) old end block red
Submits old new end block red (Err causes.Memory) =
    (new.spent ≡ true) × OfSubmission IsNoFault old end block red
Submits old new end block red (Err cause) =
    (new ≡ old) × OfSubmission (IsFault cause) old end block red

-- ---- a datagram is delivered

-- it comes to the end that didn't send it, and this is what that does
abbrev pub AreEffectsOf : Party × Party → World → EndEffects → Option LinkSent → Type 0
AreEffectsOf parties w told None = ⊥
AreEffectsOf parties w told (Some d) =
    (told.end ≡ named (other d.from))
    × (told.effects
    ≡ effects_of
    (datagram_step (at_end parties (other d.from)) (at_end w.engines (other d.from))
    (Ok d.segment) w.now).effects)

-- datagram k is delivered, where there is one; else nothing happens
abbrev pub Delivers :
    WorldValue → WorldValue → ℕ → Result EndEffects DeliverRefused → Type 0
Delivers old new k (Ok told) =
    (k < length old.sent) × Happens old new (deliver k)
    × ((events : List Event) → ShowsRun old events
    → AreEffectsOf (parties_of old) (link_after old events) told
    (slice_get (link_after old events).sent k))
Delivers old new k (Err refused.NoSuchDatagram) = (length old.sent ≤ k) × (new ≡ old)
Delivers old new k (Err refused.Memory) = (k < length old.sent) × (new.spent ≡ true)

-- ---- the clock is set

-- what both ends do when they tick; a clock that would go back stays, and then they do nothing
abbrev pub ticks_of : Party × Party → World → ℕ → List EndEffects
ticks_of parties w now =
    if nat_lt now w.now then both_ends nothing_done nothing_done
    else both_ends (effects_of (tick_step parties.0 w.engines.0 now).effects)
    (effects_of (tick_step parties.1 w.engines.1 now).effects)

abbrev pub Ticks : WorldValue → WorldValue → ℕ → List EndEffects → Type 0
Ticks old new now told =
    Happens old new (clock now)
    × ((events : List Event) → ShowsRun old events
    → told ≡ ticks_of (parties_of old) (link_after old events) now)
