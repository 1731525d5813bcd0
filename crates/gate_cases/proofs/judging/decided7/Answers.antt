use Rattle.std.proofs.Common.{sym}
use Rattle.gate_cases.specs.declared.face.Face.TheVariants.{New}
use Rattle.gate_cases.specs.Blocks.{arrival7}
use Rattle.gate_cases.proofs.JudgeLemmas.{decided-one}
use Rattle.gate_cases.proofs.judging.decided7.Goals as goal

pub returns-clause-exact : goal.returns-clause-exact
returns-clause-exact c =
    sym (decided-one New (arrival7 c.args.bundle.now) c.args.now c.args.size c.args.room c.in_ok-sent.sent c.in_ok-asked7.field-0
    c.in_ok-sent.ensures.exact c.in_ok-asked7.ensures.exact)
