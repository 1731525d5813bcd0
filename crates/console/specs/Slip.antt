-- Which word of `serve` is wrong.
use Rattle.std.specs.Prelude.{ℕ, not, is_some, List, codes, Option, None, Some, if◌then◌else◌}
use Rattle.replay_script.specs.Events.{gate_of, number_in}
use Rattle.console.specs.declared.slip.Slip.{Slip}
use Rattle.console.specs.declared.slip.Slip.TheVariants.{Gate, Turns}

-- GATE is to be an endpoint other than the null one, TURNS a number from 1 to 1,000,000,000
abbrev pub slip_of : (gate turns : List ℕ) → Option Slip
slip_of gate turns =
    if not (is_some (gate_of gate)) then Some Gate
    else if not (is_some (number_in 1 1000000000 turns)) then Some Turns
    else None

abbrev pub name_of : Slip → List ℕ
name_of Gate = codes "GATE"
name_of Turns = codes "TURNS"

abbrev pub wanted_of : Slip → List ℕ
wanted_of Gate = codes "an endpoint other than dtn:none, such as ipn:9.0, is wanted"
wanted_of Turns = codes "a number of turns is wanted, 1 to 1000000000"
