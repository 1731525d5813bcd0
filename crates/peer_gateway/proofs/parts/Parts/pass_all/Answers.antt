use Rattle.std.proofs.Common.{arith}
use Rattle.peer_gateway.specs.Steps.{passes}
use Rattle.peer_gateway.specs.Views.{moments_of}
use Rattle.gateway_core.specs.Ties.{up_values}
use Rattle.peer_gateway.proofs.PassLemmas.{turns-first, ups-next, ups-done}
use Rattle.peer_gateway.proofs.parts.Parts.pass_all.Goals as goal

pub passing-init : goal.passing-init
passing-init c =
    turns-first (λ s. passes s c.args.face (moments_of c.args.moments)) c.args.self.now c.args.answer.now (up_values c.args.ups.now) c.requires.whole

pub passing-preserved : goal.passing-preserved
passing-preserved c =
    ups-next c.args.face (moments_of c.args.moments) c.args.self.now c.passing.self c.pass.new.self c.args.answer.now c.passing.answer c.pass.new.answer
    c.args.ups.now c.passing.up-index c.up-item.result c.as_slice.result.now c.passing-test.true c.up-item.is c.as_slice.ensures c.passing.invariant
    c.in_ok-pass.ensures

pub returns : goal.returns
returns c =
    ups-done c.args.face (moments_of c.args.moments) c.args.self.now c.passing.self c.args.answer.now c.passing.answer c.args.ups.now c.passing.up-index
    (omega (arith, c.passing-test.false)) c.passing.invariant
