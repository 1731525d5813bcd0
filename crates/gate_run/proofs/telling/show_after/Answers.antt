use Rattle.gate_run.specs.Stages.{installs_over, shows_over, shows_after}
use Rattle.gate_run.proofs.MadeLemmas.{err-is, goes-err, goes-on, stops-first}
use Rattle.gate_run.proofs.TellLemmas.{stops-after, stores-after}
use Rattle.gate_run.proofs.telling.show_after.Goals as goal

pub returns-in_err-install_large-clause-goes : goal.returns-in_err-install_large-clause-goes
returns-in_err-install_large-clause-goes g c = λ p at.
    goes-err _ (shows_after c.args.board p) c.from_residual.result c.in_err-install_large.field-0.0 _ _ _
    (err-is _ _ c.from_residual.ensures.1)
    (stops-first (installs_over p) (shows_over c.args.board) _ _ (c.in_err-install_large.ensures.goes p at))

pub returns-clause-goes : goal.returns-clause-goes
returns-clause-goes g c = λ p at.
    let made = c.in_ok-install_large.ensures.goes p at in
    goes-on _ (installs_over p) (shows_over c.args.board) c.show_if_due.result _ _ _ _
    made.made (c.show_if_due.ensures.goes (installs_over p).point made.at)

pub returns-clause-writes : goal.returns-clause-writes
returns-clause-writes g c =
    stops-after c.show_if_due.result _ _ _ c.in_ok-install_large.ensures.writes c.show_if_due.ensures.writes

pub returns-clause-stores : goal.returns-clause-stores
returns-clause-stores g c =
    stores-after c.show_if_due.result _ _ _ c.in_ok-install_large.ensures.stores c.show_if_due.ensures.stores
