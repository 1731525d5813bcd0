-- What the calls of an engine promise, by the steps of the definition.

use Rattle.std.specs.Prelude.{◌≡◌, ℕ, Bool, true, false, nat_le, [], Option, None, Some, Result}
use Rattle.std.specs.Prelude.{Ok, Err}
use Rattle.ltp_segment.specs.Policy.{PolicyValue}
use Rattle.ltp_segment.specs.declared.session.TheConstants.{BLOCK_MAX}
use Rattle.ltp_session.specs.Sender.{sender_deadline}
use Rattle.ltp_session.specs.Receiver.{receiver_deadline}
use Rattle.ltp_session.specs.Engine.{Party, Engine, EngineStep, SubmitFault, earlier}
use Rattle.ltp_session.specs.Engine.{least_deadline}
use Rattle.ltp_engine.specs.declared.effects.Effects.{Effects}
use Rattle.ltp_engine.specs.declared.refused.SubmitRefused.{SubmitRefused}
use Rattle.ltp_engine.specs.declared.refused.SubmitRefused.TheVariants as causes
use Rattle.ltp_engine.specs.Refused.{refusal_of}
use Rattle.ltp_engine.specs.Effects.{effects_of}
use Rattle.ltp_engine.specs.Values.{EngineValue, nothing_received}
use Rattle.ltp_engine.specs.Shows.{Shows}

-- an engine at its beginning
abbrev pub begun_by : Party → EngineValue
begun_by p = record {
  spent = false;
  party = p;
  next = p.first;
  senders = [];
  inbound = nothing_received;
}

-- the party of an engine that keeps so many sessions of a direction, and so many runs of closed
-- numbers and receiving sessions together
abbrev pub wide_party : ℕ → ℕ → ℕ → PolicyValue → ℕ → ℕ → Party
wide_party own peer first policy sessions history = record {
  own = own;
  peer = peer;
  first = first;
  policy = policy;
  most = BLOCK_MAX;
  sessions = sessions;
  history = history;
}

-- it keeps 64 sessions of a direction, and 65,536 runs of closed numbers
abbrev pub new_engine : ℕ → ℕ → ℕ → PolicyValue → EngineValue
new_engine own peer first policy = begun_by (wide_party own peer first policy 64 65536)

-- when a timer of the engine is due next
abbrev pub deadline_of : EngineValue → Option ℕ
deadline_of v =
    earlier (least_deadline sender_deadline v.senders)
    (least_deadline receiver_deadline v.inbound.receivers)

-- a deadline is there, and is due at this moment
abbrev pub is_due_at : ℕ → Option ℕ → Bool
is_due_at now None = false
is_due_at now (Some deadline) = nat_le deadline now

-- each engine of the definition that the old value stands for does this step; the new value stands
-- for the engine after it, and the effects are that step's
pub record Steps (old new : EngineValue) (step : Engine → EngineStep) (effects : Effects) :
    Type 0 where
  pub whole : new.spent ≡ false
  pub party : new.party ≡ old.party
  pub next : (e : Engine) → Shows old e → Shows new (step e).engine
  pub effects_are : (e : Engine) → Shows old e → effects ≡ effects_of (step e).effects

-- the step is a fault of the definition, and this is its refusal
abbrev pub IsFault : SubmitRefused → Result EngineStep SubmitFault → Type 0
IsFault refused (Ok step) = ⊥
IsFault refused (Err fault) = refused ≡ refusal_of fault

-- the step is no fault
abbrev pub IsNoFault : Result EngineStep SubmitFault → Type 0
IsNoFault (Ok step) = Unit {0}
IsNoFault (Err fault) = ⊥

-- the step is no fault; the new value stands for the engine after it
abbrev pub IsSent : EngineValue → Effects → Result EngineStep SubmitFault → Type 0
IsSent new effects (Ok step) = Shows new step.engine × (effects ≡ effects_of step.effects)
IsSent new effects (Err fault) = ⊥

-- a block is sent by every engine of the definition that the old value stands for
pub record Sends
    (old new : EngineValue) (step : Engine → Result EngineStep SubmitFault) (effects : Effects)
    : Type 0 where
  pub whole : new.spent ≡ false
  pub party : new.party ≡ old.party
  pub next : (e : Engine) → Shows old e → IsSent new effects (step e)

-- a block is submitted: sent, or refused for the first fault that there is, which changes nothing;
-- memory is wanted only where there is no fault
abbrev pub Submits : EngineValue → EngineValue → (Engine → Result EngineStep SubmitFault)
    → Result Effects SubmitRefused → Type 0
Submits old new step (Ok effects) = Sends old new step effects
Submits old new step (Err causes.Memory) =
    (new.spent ≡ true) × ((e : Engine) → Shows old e → IsNoFault (step e))
Submits old new step (Err refused) =
    (new ≡ old) × ((e : Engine) → Shows old e → IsFault refused (step e))
