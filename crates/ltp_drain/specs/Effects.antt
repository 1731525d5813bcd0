-- What the ends of a link do in the events of a run.

use Rattle.std.specs.Prelude.{◌≡◌, ℕ, nat_le, nat_lt, List, [], ◌∷◌, ◌++◌, length, slice_get}
use Rattle.std.specs.Prelude.{Option, None, Some, Result, Ok, Err, if◌then◌else◌}
use Rattle.ltp_segment.specs.declared.session.Note.{Note}
use Rattle.ltp_session.specs.Engine.{EffectsValue, EngineStep, Party, SubmitFault, UpValue}
use Rattle.ltp_session.specs.Engine.{datagram_step, submit_step, submits, tick_step}
use Rattle.ltp_session.specs.World.{End, Event, Sent, World, at_end, clock, deliver, first_end}
use Rattle.ltp_session.specs.World.{happens, other, second_end, submit}
use Rattle.ltp_laws.specs.View.{IsIn}

-- what an end does in an event
pub record EndEffects : Type 0 where
  pub end : End
  pub effects : EffectsValue

abbrev pub submit_effects : End → Result EngineStep SubmitFault → List EndEffects
submit_effects end (Ok step) = record { end = end; effects = step.effects } ∷ []
submit_effects end (Err fault) = []

abbrev pub deliver_effects : Party × Party → World → Option Sent → List EndEffects
deliver_effects parties w None = []
deliver_effects parties w (Some d) = record {
  end = other d.from;
  effects = (datagram_step (at_end parties (other d.from)) (at_end w.engines (other d.from))
      (Ok d.segment) w.now).effects;
} ∷ []

-- what an event has the ends do
abbrev pub effects_at : Party × Party → World → Event → List EndEffects
effects_at parties w (submit end block red) =
    if nat_le red (length block)
    then
    submit_effects end
    (submit_step (at_end parties end) (at_end w.engines end)
    (submits (at_end parties end) (at_end w.engines end) block red w.now))
    else []
effects_at parties w (deliver k) = deliver_effects parties w (slice_get w.sent k)
effects_at parties w (clock now) =
    if nat_lt now w.now then []
    else record { end = first_end; effects = (tick_step parties.0 w.engines.0 now).effects }
    ∷ record { end = second_end; effects = (tick_step parties.1 w.engines.1 now).effects } ∷ []

-- what a run has them do, in order
unfoldable pub effects_in : Party × Party → World → List Event → List EndEffects
effects_in parties w [] = []
effects_in parties w (event ∷ events) =
    effects_at parties w event ++ effects_in parties (happens parties w event) events

-- an end's note stands among these effects
pub record IsNoted (all : List EndEffects) (end : End) (note : Note) : Type 0 where
  pub of : EndEffects
  pub among : IsIn of all
  pub by : of.end ≡ end
  pub noted : IsIn note of.effects.notes

-- a red part stands among them that an end hands up; it is of session n of the other end
pub record IsHandedUp (all : List EndEffects) (end : End) (n : ℕ) : Type 0 where
  pub of : EndEffects
  pub among : IsIn of all
  pub by : of.end ≡ end
  pub up : UpValue
  pub handed : IsIn up of.effects.ups
  pub session : up.session ≡ n
