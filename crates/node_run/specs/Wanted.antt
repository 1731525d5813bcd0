-- Where the answer to a line may be want of memory.
use Rattle.std.specs.Prelude.{◌≡◌, ℕ, ◌<◌, ◌⊎◌, true, max, length}
use Rattle.command_frame.specs.Lines.{Turn, passes, ends_run}
use Rattle.ltp_engine.specs.Steps.{deadline_of, is_due_at}
use Rattle.ltp_engine.specs.Values.{EngineValue}
use Rattle.replay_script.specs.declared.event.NodeEvent.{NodeEvent}
use Rattle.replay_script.specs.declared.event.NodeEvent.TheVariants as events
use Rattle.node_run.specs.Node.{NodeState, no_moment}

-- there is something to write
abbrev pub HasText : {S : Type 0} → Turn S → Type 0
HasText (passes text state) = 0 < length text
HasText (ends_run text status) = 0 < length text

-- an engine that is kept so, with its clock at this moment, has something to do: a datagram comes, or a
-- block; or a timer is due, where the clock is set to a moment that it shows
abbrev pub IsStirred : EngineValue → ℕ → NodeEvent → Type 0
IsStirred engine now (events.In datagram) = Unit {0}
IsStirred engine now (events.Send block) = Unit {0}
IsStirred engine now (events.Clock moment) =
    (moment < no_moment) × (is_due_at (max now moment) (deadline_of engine) ≡ true)

-- memory may be wanted for an event, of which this is the answer
abbrev pub MayWant : EngineValue → ℕ → NodeEvent → Turn NodeState → Type 0
MayWant engine now event turn = HasText turn ⊎ IsStirred engine now event
