use Rattle.gate_cases.proofs.JudgeLemmas.{bundle-judged7}
use Rattle.gate_cases.proofs.judging.judge_bundle7.Goals as goal

pub returns-in-Ok-clause-exact : goal.returns-in-Ok-clause-exact
returns-in-Ok-clause-exact c =
    bundle-judged7 c.args.block.now c.in-Ok.bundle c.in-Ok.field-0-1 c.args.now c.args.size c.args.room c.decided7.result
    c.requires.one c.in-Ok.ensures.exact c.decided7.ensures.exact
