use Rattle.gate_cases.specs.declared.face.Face.TheVariants.{Old, New}
use Rattle.gate_cases.proofs.JudgeLemmas.{given-room}
use Rattle.gate_cases.proofs.judging.judge.Goals as goal

pub returns-in-Old-clause-room : goal.returns-in-Old-clause-room
returns-in-Old-clause-room c =
    given-room Old c.args.block.now c.args.now c.args.cut c.args.room c.judge_old.result c.judge_old.ensures.exact

pub returns-in-New-clause-room : goal.returns-in-New-clause-room
returns-in-New-clause-room c =
    given-room New c.args.block.now c.args.now c.args.cut c.args.room c.judge_new.result c.judge_new.ensures.exact
