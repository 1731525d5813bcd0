use Rattle.std.proofs.Common.{sym, ◌∙◌}
use Rattle.gate_cases.specs.declared.cause.BadCause.TheVariants.{Seven, Trailing}
use Rattle.gate_cases.specs.declared.face.Face.TheVariants.{New}
use Rattle.gate_cases.specs.Blocks.{arrival7}
use Rattle.gate_cases.proofs.JudgeLemmas.{early7, bad7, one7, whole7, judged-bad, one-good, on-err}
use Rattle.gate_cases.proofs.judging.judge_new.Goals as goal

pub judge_bundle7-requires-clause-one : goal.judge_bundle7-requires-clause-one
judge_bundle7-requires-clause-one c = whole7 c.args.block.now c.in-Ok.end c.in-Ok.ensures.exact c.if-end-block.true

pub returns-in-Ok-clause-memory : goal.returns-in-Ok-clause-memory
returns-in-Ok-clause-memory c =
    let (b, is) = whole7 c.args.block.now c.in-Ok.end c.in-Ok.ensures.exact c.if-end-block.true in
    on-err c.judge_bundle7.result
    (one-good New c.args.block.now c.args.now c.args.size c.args.room (arrival7 b) (one7 c.args.block.now b is))

pub returns-in-Ok-2-clause-exact : goal.returns-in-Ok-2-clause-exact
returns-in-Ok-2-clause-exact c =
    c.bad.ensures ∙ sym (judged-bad New c.args.block.now c.args.now c.args.size c.args.room c.in-Ok.end Trailing
    (early7 c.args.block.now c.in-Ok.end c.in-Ok.ensures.exact c.if-end-block.false))

pub returns-in-Err-clause-exact : goal.returns-in-Err-clause-exact
returns-in-Err-clause-exact c =
    c.bad-in-Err.ensures ∙ sym (judged-bad New c.args.block.now c.args.now c.args.size c.args.room c.in-Err.refused.at (Seven c.in-Err.refused.cause)
    (bad7 c.args.block.now c.in-Err.refused c.in-Err.ensures.exact))
