-- What ties the code to the definition.

use Rattle.std.specs.Prelude.{◌≡◌, List, ◌++◌, Result, Ok, Err}
use Rattle.ltp_session.specs.Engine.{EngineStep, SubmitFault}
use Rattle.ltp_audit.specs.declared.entry.Entry.{Entry}
use Rattle.replay_script.specs.declared.event.NodeEvent.{NodeEvent}
use Rattle.node_run.specs.Node.{NodeState}
use Rattle.record_run.specs.Record.{entries_of}

-- an engine's step was done about an event: what the code keeps stands for the node after it, and
-- the recording grew; or a block wasn't sent
abbrev pub GrowsBy : (NodeState → Type 0) → NodeState → NodeEvent
    → Result EngineStep SubmitFault → List Entry → List Entry → Type 0
GrowsBy Shows node event (Ok step) before after = Shows (record node { engine = step.engine })
    × (after ≡ before ++ entries_of event step.effects)
GrowsBy Shows node event (Err fault) before after = Shows node × (after ≡ before)
