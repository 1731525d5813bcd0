use Rattle.std.proofs.Common.{◌-◌, length, take}
use Rattle.gateway_core.specs.Gate.{in_turn, sends_at}
use Rattle.gateway_core.specs.Ties.{Did, HasRoom, engine_at, setup_in}
use Rattle.gateway_core.proofs.parts.Parts.send_all.Given as goal

abbrev pub invariant-sending : goal.invariant-sending
invariant-sending l =
    Did l.initial.self l.self (in_turn (sends_at (setup_in l.initial.self) l.face l.now) (take l.block-index l.blocks)) l.sent
    × HasRoom (engine_at l.self l.face) (length l.blocks - l.block-index)
