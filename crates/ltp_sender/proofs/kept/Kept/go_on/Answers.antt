use Rattle.std.proofs.Common.{length, take, None, Some, refl, sym, ap, subst, ◌∙◌}
use Rattle.std.specs.Prelude.{IfOk}
use Rattle.ltp_segment.specs.declared.session.Note.TheVariants as notes
use Rattle.ltp_segment.specs.PolicyViews.{policy_value}
use Rattle.ltp_segment.specs.Views.{report_value}
use Rattle.ltp_session.specs.Step.{StepValue}
use Rattle.ltp_session.specs.Sender.{Sending}
use Rattle.ltp_sender.specs.Segments.{checkpoint_value}
use Rattle.ltp_sender.specs.Kept.{sending_of, Did}
use Rattle.ltp_sender.proofs.ClaimLemmas.{all_covered-all}
use Rattle.ltp_sender.proofs.StepLemmas.{Did-is, goes_on-whole, goes_on-other, goes_on-round, not_same, is_same}
use Rattle.ltp_sender.proofs.kept.Kept.go_on.Goals as goal

pub returns-then-is_whole : goal.returns-then-is_whole
returns-then-is_whole c was earlier is =
    let s = sending_of c.args.self in
    let checkpoint = checkpoint_value (length s.block) (take s.red s.block) c.args.checkpoint in
    let whole = sym (all_covered-all c.args.self.claimed c.args.self.red c.args.self.limit) ∙ sym c.if-is_whole.ensures in
    Did-is c.args.terms.name was _ _ (None, c.noting.result)
    (goes_on-whole (policy_value c.args.terms.policy) s checkpoint (report_value c.args.report) c.args.now earlier whole)
    (record { kept = refl; answer = c.noting.ensures ∙ ap (λ ds. record { out = ds; up = None; green = None; note = Some (notes.Sent c.args.terms.name.number) }) is })

pub returns-then-report-checkpoint : goal.returns-then-report-checkpoint
returns-then-report-checkpoint c was earlier is =
    let s = sending_of c.args.self in
    let checkpoint = checkpoint_value (length s.block) (take s.red s.block) c.args.checkpoint in
    let open_part = sym (all_covered-all c.args.self.claimed c.args.self.red c.args.self.limit) ∙ sym c.if-is_whole.ensures in
    Did-is c.args.terms.name was _ _ (Some c.args.self, c.sending.result)
    (goes_on-other (policy_value c.args.terms.policy) s checkpoint (report_value c.args.report) c.args.now earlier open_part
    (not_same c.args.report.checkpoint c.args.checkpoint.serial c.if-report-checkpoint.true))
    (record { kept = refl; answer = c.sending.ensures ∙ ap (λ ds. record { out = ds; up = None; green = None; note = None }) is })

pub returns : goal.returns
returns c was earlier is =
    let s = sending_of c.args.self in
    let checkpoint = checkpoint_value (length s.block) (take s.red s.block) c.args.checkpoint in
    let open_part = sym (all_covered-all c.args.self.claimed c.args.self.red c.args.self.limit) ∙ sym c.if-is_whole.ensures in
    subst (λ (t : StepValue Sending). IfOk c.next_round.result (Did c.args.terms.name was t))
    (sym (goes_on-round (policy_value c.args.terms.policy) s checkpoint (report_value c.args.report) c.args.now earlier open_part
    (is_same c.args.report.checkpoint c.args.checkpoint.serial c.if-report-checkpoint.false)))
    (c.next_round.ensures was earlier is)
