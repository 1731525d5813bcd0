use Rattle.std.proofs.Common.{rules, refl}
use Rattle.gate_run.specs.Stages.{ends_over, writes_over, shows_after, tells_over}
use Rattle.gate_run.proofs.MadeLemmas.{err-is, goes-err, goes-on, stops-first}
use Rattle.gate_run.proofs.HalfLemmas.{half-unheard}
use Rattle.gate_run.proofs.TellLemmas.{stops-unwritten, stops-unstored, stops-after, stores-after}
use Rattle.gate_run.proofs.telling.tell.Goals as goal

pub returns-in_err-end_sending-clause-goes : goal.returns-in_err-end_sending-clause-goes
returns-in_err-end_sending-clause-goes g c = λ p at.
    half-unheard _ (tells_over c.args.board p) c.from_residual.result _ _ _ (search rules) refl

pub returns-in_err-end_sending-clause-writes : goal.returns-in_err-end_sending-clause-writes
returns-in_err-end_sending-clause-writes g c =
    stops-unwritten c.from_residual.result _ _ (search rules) refl

pub returns-in_err-end_sending-clause-stores : goal.returns-in_err-end_sending-clause-stores
returns-in_err-end_sending-clause-stores g c =
    stops-unstored c.from_residual.result _ _ (search rules) refl

pub returns-in_err-write_lines-clause-goes : goal.returns-in_err-write_lines-clause-goes
returns-in_err-write_lines-clause-goes g c = λ p at.
    goes-err _ (tells_over c.args.board p) c.from_residual-in_err-write_lines.result
    c.in_err-write_lines.field-0.0 _ _ _ (err-is _ _ c.from_residual-in_err-write_lines.ensures.1)
    (stops-first (writes_over (ends_over p)) (shows_after c.args.board) _ _
    (c.in_err-write_lines.ensures.goes (ends_over p)
    record { shown = c.in_ok-end_sending.ensures.after p.standing at.shown; told = at.told }))

pub returns-clause-goes : goal.returns-clause-goes
returns-clause-goes g c = λ p at.
    let written = c.in_ok-write_lines.ensures.goes (ends_over p)
    record { shown = c.in_ok-end_sending.ensures.after p.standing at.shown; told = at.told } in
    goes-on _ (writes_over (ends_over p)) (shows_after c.args.board) c.show_after.result _ _ _ _
    written.made (c.show_after.ensures.goes (ends_over p) written.at)

pub returns-clause-writes : goal.returns-clause-writes
returns-clause-writes g c =
    stops-after c.show_after.result _ _ _ c.in_ok-write_lines.ensures.writes
    c.show_after.ensures.writes

pub returns-clause-stores : goal.returns-clause-stores
returns-clause-stores g c =
    stores-after c.show_after.result _ _ _ c.in_ok-write_lines.ensures.stores
    c.show_after.ensures.stores
