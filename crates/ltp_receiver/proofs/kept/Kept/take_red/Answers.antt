use Rattle.std.proofs.Common.{◌∙◌, sym, refl}
use Rattle.ltp_segment.specs.PolicyViews.{policy_value}
use Rattle.ltp_segment.specs.Views.{piece_value}
use Rattle.ltp_receiver.specs.Kept.{receiving_of}
use Rattle.ltp_receiver.proofs.KeptLemmas.{did-report, not_past}
use Rattle.ltp_receiver.proofs.kept.Kept.take_red.Goals as goal

pub returns-clause-did : goal.returns-clause-did
returns-clause-did c =
    did-report c.args.terms.name (receiving_of c.args.self) (receiving_of c.with_handed_up-kept.result) (policy_value c.args.terms.policy)
    (piece_value c.args.piece.now) c.args.now c.in_ok-up.up c.report.result
    c.with_handed_up-kept.ensures c.in_ok-up.ensures.part (sym c.is_checkpoint.ensures ∙ c.if-not-is_checkpoint.false)
    (not_past (receiving_of c.args.self) (receiving_of c.with_handed_up-kept.result) _ c.with_handed_up-kept.ensures refl c.if-kept-eq-SERIALS.false)
    c.report.ensures
