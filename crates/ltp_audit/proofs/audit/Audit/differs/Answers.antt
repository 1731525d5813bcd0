use Rattle.std.proofs.Common.{◌≡◌, sym, subst, not}
use Rattle.ltp_segment.specs.Views.{content_value}
use Rattle.ltp_audit.specs.Rules.{differs}
use Rattle.ltp_audit.proofs.AuditLemmas.{differs-is}
use Rattle.ltp_audit.proofs.audit.Audit.differs.Goals as goal

pub returns-then-is_red : goal.returns-then-is_red
returns-then-is_red c = λ earlier keeps.
    subst (λ content. not c.agrees.result ≡ differs earlier (content_value content)) (sym c.in-Piece.is)
    (differs-is c.args.self.now c.args.name.originator c.args.name.number earlier (record {
      kind = c.in-Piece.kind;
      service = c.in-Piece.service;
      offset = c.in-Piece.offset;
      checkpoint = c.in-Piece.checkpoint;
      report = c.in-Piece.report;
      body = c.in-Piece.body.now;
    }) c.agrees.result keeps
    (sym c.if-is_red.ensures) c.agrees.ensures)
