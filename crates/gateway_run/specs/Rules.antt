-- What a command does, by its kind.
use Rattle.edge_traits.specs.Settled.{Settled}
use Rattle.command_frame.specs.Task.{Settling}
use Rattle.serve_run.specs.Turns.{Act}
use Rattle.serve_run.specs.Serve.{Serving}

-- It reads, and its octets settle its answer; or it reads nothing, and writes an answer of its own;
-- or it reads nothing, and acts over two links and a clock.
pub data Rules : Type 0 where
  reads : Settling → Rules
  writes : Settled → Rules
  acts : Act Serving → Rules
