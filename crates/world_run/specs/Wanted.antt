-- Where the answer to a line may be want of memory.
use Rattle.std.specs.Prelude.{◌≡◌, ◌<◌, ◌⊎◌, true}
use Rattle.command_frame.specs.Lines.{Turn}
use Rattle.ltp_engine.specs.Steps.{is_due_at}
use Rattle.node_run.specs.Wanted.{HasText}
use Rattle.path_laws.specs.Path.{sends, delivers, clock_shows}
use Rattle.path_world.specs.Drain.{IsDueEarly}
use Rattle.path_world.specs.Values.{PathValue, path_deadline}
use Rattle.world_run.specs.World.{WorldState, LaterLine, says_event, says_drain, no_moment}

-- a path that is kept so has something to do: a block is sent, or a datagram comes; a timer is due, where
-- the clock is set to a moment that it shows; or the first event of a drain sets the clock to one
abbrev pub IsStirred : PathValue → LaterLine → Type 0
IsStirred path (says_event (sends end block)) = Unit {0}
IsStirred path (says_event (delivers k)) = Unit {0}
IsStirred path (says_event (clock_shows now)) =
    (now < no_moment) × (is_due_at now (path_deadline path) ≡ true)
IsStirred path says_drain = IsDueEarly (path_deadline path)

-- memory may be wanted for what a line says, of which this is the answer
abbrev pub MayWant : PathValue → LaterLine → Turn WorldState → Type 0
MayWant path said turn = HasText turn ⊎ IsStirred path said
