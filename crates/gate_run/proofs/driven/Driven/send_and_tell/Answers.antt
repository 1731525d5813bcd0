use Rattle.gate_run.specs.Stages.{sends_both, tells_over}
use Rattle.gate_run.proofs.MadeLemmas.{goes-on}
use Rattle.gate_run.proofs.driven.Driven.send_and_tell.Goals as goal

pub returns-clause-goes : goal.returns-clause-goes
returns-clause-goes g c = λ p at.
    let sent = c.send_both.ensures.leads p at in
    goes-on _ (sends_both p) (tells_over c.args.board) c.tell.result _ _ _ _
    sent.made (c.tell.ensures.goes (sends_both p).point sent.at)
