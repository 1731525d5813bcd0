use Rattle.std.proofs.Common.{refl, sym, ◌∙◌}
use Rattle.ltp_audit.proofs.AuditLemmas.{piece-kept-as}
use Rattle.ltp_audit.proofs.audit.Audit.keep_piece.Goals as goal

pub returns-clause-kept : goal.returns-clause-kept
returns-clause-kept c = λ piece kind offset checkpoint body.
    piece-kept-as c.args.self.now _ c.args.name.originator c.args.name.number c.args.offset c.args.checkpoint c.args.kind c.args.body.now piece
    kind offset checkpoint body refl refl (sym c.is_red.ensures ∙ c.if-not-is_red.false)
    c.in_ok-add.ensures.octets c.in_ok-add.ensures.held c.in_ok-mark_checkpoint.ensures refl refl refl
