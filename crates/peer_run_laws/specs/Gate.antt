-- The gate of a run.

use Rattle.std.specs.Prelude.{◌≡◌}
use Rattle.peer_gateway.specs.Steps.{peer_gate_after}
use Rattle.peer_half.specs.Runs.{Run, events_of, first_gate, setup_of, stands_at}

-- its gate is what its events make of one at its beginning
abbrev pub GateIsOfEvents : Type 0
GateIsOfEvents =
    (r : Run) → (stands_at r).gate ≡ peer_gate_after (setup_of r) (first_gate r) (events_of r)
