use Rattle.std.proofs.Common.{sym, ◌∙◌}
use Rattle.gate_cases.specs.declared.cause.BadCause.TheVariants.{Six, Trailing}
use Rattle.gate_cases.specs.declared.face.Face.TheVariants.{Old}
use Rattle.gate_cases.specs.Blocks.{arrival6}
use Rattle.gate_cases.proofs.JudgeLemmas.{early6, bad6, one6, whole6, judged-bad, one-good, on-err}
use Rattle.gate_cases.proofs.judging.judge_old.Goals as goal

pub judge_bundle6-requires-clause-one : goal.judge_bundle6-requires-clause-one
judge_bundle6-requires-clause-one c = whole6 c.args.block.now c.in-Ok.end c.in-Ok.ensures.exact c.if-end-block.true

pub returns-in-Ok-clause-memory : goal.returns-in-Ok-clause-memory
returns-in-Ok-clause-memory c =
    let (b, is) = whole6 c.args.block.now c.in-Ok.end c.in-Ok.ensures.exact c.if-end-block.true in
    on-err c.judge_bundle6.result
    (one-good Old c.args.block.now c.args.now c.args.size c.args.room (arrival6 b) (one6 c.args.block.now b is))

pub returns-in-Ok-2-clause-exact : goal.returns-in-Ok-2-clause-exact
returns-in-Ok-2-clause-exact c =
    c.bad.ensures ∙ sym (judged-bad Old c.args.block.now c.args.now c.args.size c.args.room c.in-Ok.end Trailing
    (early6 c.args.block.now c.in-Ok.end c.in-Ok.ensures.exact c.if-end-block.false))

pub returns-in-Err-clause-exact : goal.returns-in-Err-clause-exact
returns-in-Err-clause-exact c =
    c.bad-in-Err.ensures ∙ sym (judged-bad Old c.args.block.now c.args.now c.args.size c.args.room c.in-Err.refused.at (Six c.in-Err.refused.cause)
    (bad6 c.args.block.now c.in-Err.refused c.in-Err.ensures.exact))
