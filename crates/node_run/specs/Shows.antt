-- What ties the code to the definition.
use Rattle.std.specs.Prelude.{◌≡◌, ℕ, Bool, true, false, Result, Ok, Err}
use Rattle.ltp_session.specs.Engine.{EngineStep, SubmitFault}
use Rattle.ltp_engine.specs.declared.effects.Effects.{Effects}
use Rattle.ltp_engine.specs.declared.refused.SubmitRefused.{SubmitRefused}
use Rattle.ltp_engine.specs.declared.refused.SubmitRefused.TheVariants as causes
use Rattle.ltp_engine.specs.Effects.{effects_of}
use Rattle.ltp_engine.specs.Refused.{refusal_of}
use Rattle.ltp_engine.specs.Values.{EngineValue}
use Rattle.ltp_engine.specs.Shows as engines
use Rattle.node_run.specs.Node.{NodeState}

-- an engine of the code and its clock stand for these of the definition, where memory hasn't run out
pub record ShowsNode (spent : Bool) (engine : EngineValue) (now : ℕ) (node : NodeState) : Type 0 where
  pub whole : spent ≡ false
  pub party : node.party ≡ engine.party
  pub engine_shows : engines.Shows engine node.engine
  pub clock : node.now ≡ now

-- a step of the engine was done: what the code keeps stands for the node after it, and the effects
-- are that step's
pub record Did (Shows : NodeState → Type 0) (node : NodeState) (step : EngineStep) (effects : Effects) : Type 0 where
  pub next : Shows (record node { engine = step.engine })
  pub effects_are : effects ≡ effects_of step.effects

-- a block was sent, or refused for the fault that there is; memory is wanted only where there is
-- none
abbrev pub Submitted : (NodeState → Type 0) → NodeState → Result EngineStep SubmitFault → Result Effects SubmitRefused → Type 0
Submitted Shows node (Ok step) (Ok effects) = Did Shows node step effects
Submitted Shows node (Ok step) (Err causes.Memory) = Unit {0}
Submitted Shows node (Ok step) (Err refused) = ⊥
Submitted Shows node (Err fault) (Ok effects) = ⊥
Submitted Shows node (Err fault) (Err refused) = Shows node × (refused ≡ refusal_of fault)

-- memory ran out while a block was submitted
abbrev pub ran_out : Result Effects SubmitRefused → Bool
ran_out (Ok effects) = false
ran_out (Err causes.Empty) = false
ran_out (Err causes.TooLarge) = false
ran_out (Err causes.NumbersSpent) = false
ran_out (Err causes.Busy) = false
ran_out (Err causes.Memory) = true
