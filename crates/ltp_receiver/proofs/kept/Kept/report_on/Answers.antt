use Rattle.std.proofs.Common.{◌∙◌}
use Rattle.std.proofs.lemmas.Result.{IfOk-weaker}
use Rattle.ltp_session.specs.Receiver.{report_of}
use Rattle.ltp_receiver.proofs.ReportLemmas.{report-same}
use Rattle.ltp_receiver.proofs.kept.Kept.report_on.Goals as goal

pub returns : goal.returns
unfolding report_of
returns c = IfOk-weaker c.on.result _ _
    (λ report is. is ∙ (rw c.bound_of-upper.ensures (report-same c.places.result.now c.args.self.now.cells c.args.self.now.serial c.args.piece.now.checkpoint _ c.places.ensures)))
    c.on.ensures
