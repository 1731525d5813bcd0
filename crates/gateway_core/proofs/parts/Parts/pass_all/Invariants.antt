use Rattle.std.proofs.Common.{take}
use Rattle.gateway_core.specs.Gate.{in_turn, passes_at}
use Rattle.gateway_core.specs.Ties.{Did, setup_in, up_values}
use Rattle.gateway_core.proofs.parts.Parts.pass_all.Given as goal

abbrev pub invariant-passing : goal.invariant-passing
invariant-passing l =
    Did l.initial.self l.self (in_turn (passes_at (setup_in l.initial.self) l.face l.now) (up_values (take l.up-index l.ups))) l.passed
