use Rattle.std.proofs.Common.{length, take, None, Some, [], ◌∷◌, refl, sym, ap, subst, ◌∙◌}
use Rattle.std.specs.Prelude.{IfOk}
use Rattle.std.proofs.lemmas.Bool.{lt-ltb, le-ltb}
use Rattle.ltp_segment.specs.declared.session.Note.TheVariants as notes
use Rattle.ltp_segment.specs.PolicyViews.{policy_value}
use Rattle.ltp_segment.specs.Views.{report_value}
use Rattle.ltp_segment.specs.Values.{a_report_ack}
use Rattle.ltp_session.specs.Step.{StepValue}
use Rattle.ltp_session.specs.Sender.{Sending, goes_on}
use Rattle.ltp_sender.specs.Segments.{checkpoint_value}
use Rattle.ltp_sender.specs.Kept.{sending_of, phase_value, Did}
use Rattle.ltp_sender.proofs.StepLemmas.{Did-is, report_step-sends, OnErr-of, report_step-outside, report_step-open, report_step-cancelling}
use Rattle.ltp_sender.proofs.kept.Kept.report.Goals as goal

pub returns-then-report-self-clause-done : goal.returns-then-report-self-clause-done
returns-then-report-self-clause-done c =
    let s = sending_of c.args.self in
    Did-is c.args.terms.name s _ _ (Some c.args.self, c.noting.result)
    (report_step-outside (policy_value c.args.terms.policy) s (report_value c.args.report) c.args.now (lt-ltb c.args.self.red c.args.report.upper c.if-report-self.true))
    (record { kept = refl; answer = c.noting.ensures ∙ ap (λ ds. record { out = ds; up = None; green = None; note = Some (notes.BadBounds c.args.terms.name.number) }) c.new.ensures })

pub returns-in_ok-add-in-Open-clause-done : goal.returns-in_ok-add-in-Open-clause-done
returns-in_ok-add-in-Open-clause-done c =
    let s = sending_of c.args.self in
    let policy = policy_value c.args.terms.policy in
    let report = report_value c.args.report in
    let added = c.in_ok-add-in-Open.ensures in
    let size = length s.block in
    let part = take s.red s.block in
    let checkpoint = checkpoint_value size part c.in-Open.checkpoint in
    let is_open = report_step-open policy s report c.args.now checkpoint c.in-Open.timer (le-ltb c.args.self.red c.args.report.upper c.if-report-self.false)
    (ap (λ phase. phase_value size part phase) c.in-Open.is) in
    let goes : Sending → StepValue Sending = λ t. goes_on policy t (checkpoint_value (length t.block) (take t.red t.block) c.in-Open.checkpoint) report c.args.now
    (a_report_ack c.args.report.serial ∷ []) in
    subst (λ (t : StepValue Sending). IfOk c.go_on.result (Did c.args.terms.name s t))
    (ap goes added ∙ sym is_open)
    (c.go_on.ensures s (a_report_ack c.args.report.serial ∷ []) c.in_ok-acks.ensures)

pub returns-in-Cancelling-clause-done : goal.returns-in-Cancelling-clause-done
returns-in-Cancelling-clause-done c =
    let s = sending_of c.args.self in
    Did-is c.args.terms.name s _ _ (Some c.args.self, c.sending.result)
    (report_step-cancelling (policy_value c.args.terms.policy) s (report_value c.args.report) c.args.now c.in-Cancelling.reason c.in-Cancelling.timer
    (le-ltb c.args.self.red c.args.report.upper c.if-report-self.false)
    (ap (λ phase. phase_value (length s.block) (take s.red s.block) phase) c.in-Cancelling.is))
    (record { kept = refl; answer = c.sending.ensures ∙ ap (λ ds. record { out = ds; up = None; green = None; note = None }) c.in_ok-acks.ensures })

pub returns-in_err-acks-clause-wanted : goal.returns-in_err-acks-clause-wanted
returns-in_err-acks-clause-wanted c =
    OnErr-of c.from_residual.result _ (report_step-sends (policy_value c.args.terms.policy) (sending_of c.args.self) (report_value c.args.report) c.args.now
    (le-ltb c.args.self.red c.args.report.upper c.if-report-self.false))

pub returns-in_err-add-in-Open-clause-wanted : goal.returns-in_err-add-in-Open-clause-wanted
returns-in_err-add-in-Open-clause-wanted c =
    OnErr-of c.from_residual-in_err-add-in-Open.result _ (report_step-sends (policy_value c.args.terms.policy) (sending_of c.args.self) (report_value c.args.report) c.args.now
    (le-ltb c.args.self.red c.args.report.upper c.if-report-self.false))

pub returns-in_ok-add-in-Open-clause-wanted : goal.returns-in_ok-add-in-Open-clause-wanted
returns-in_ok-add-in-Open-clause-wanted c =
    OnErr-of c.go_on.result _ (report_step-sends (policy_value c.args.terms.policy) (sending_of c.args.self) (report_value c.args.report) c.args.now
    (le-ltb c.args.self.red c.args.report.upper c.if-report-self.false))
