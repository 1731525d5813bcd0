use Rattle.std.proofs.Common.{sym, ◌∙◌}
use Rattle.gate_cases.specs.declared.face.Face.TheVariants.{Old}
use Rattle.gate_cases.specs.Blocks.{arrival7}
use Rattle.gate_cases.proofs.SendLemmas.{read-ok, sent-refused}
use Rattle.gate_cases.proofs.JudgeLemmas.{on-err}
use Rattle.gate_cases.proofs.judging.sent7.Goals as goal

pub returns-in-Ok-clause-exact : goal.returns-in-Ok-clause-exact
returns-in-Ok-clause-exact c =
    read-ok Old (arrival7 c.args.bundle.now) c.in-Ok.full c.args.now c.args.size c.args.room c.send.result
    (rw c.in-Ok.is at c.in_ok-full.ensures.exact) c.send.ensures.exact

pub returns-in-Err-clause-exact : goal.returns-in-Err-clause-exact
returns-in-Err-clause-exact c =
    c.stopped.ensures ∙ sym (sent-refused Old (arrival7 c.args.bundle.now) c.args.now c.args.size c.args.room c.in-Err.cause
    (rw c.in-Err.is at c.in_ok-full.ensures.exact))

pub returns-in-Ok-clause-memory : goal.returns-in-Ok-clause-memory
returns-in-Ok-clause-memory c = on-err c.send.result (rw c.in-Ok.is at c.in_ok-full.ensures.exact).0
