use Rattle.gateway_core.specs.Gate.{passes_at}
use Rattle.gateway_core.specs.Ties.{setup_in}
use Rattle.gateway_core.proofs.DidLemmas.{did-none-yet, passes-more}
use Rattle.gateway_core.proofs.parts.Parts.pass_all.Goals as goal

pub passing-init : goal.passing-init
passing-init c = did-none-yet (passes_at (setup_in c.args.self.now) c.args.face c.args.now) c.args.self.now c.none-passed.result c.requires.whole c.none-passed.ensures

pub passing-preserved : goal.passing-preserved
passing-preserved c = passes-more c.args.face c.args.now c.args.self.now c.passing.self c.pass.new.self c.args.ups.now c.passing.up-index c.up-item.result c.as_slice.result.now
    c.passing.passed c.in_ok-more.more c.in_ok-passed.passed c.passing-test.true c.up-item.is c.as_slice.ensures c.passing.invariant c.in_ok-more.ensures c.in_ok-passed.ensures.joined
