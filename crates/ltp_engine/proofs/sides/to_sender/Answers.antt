use Rattle.std.proofs.Common.{refl, sym, subst, Some, None}
use Rattle.ltp_segment.specs.PolicyViews.{policy_value}
use Rattle.ltp_segment.specs.Views.{content_value}
use Rattle.ltp_session.specs.Table.{find}
use Rattle.ltp_session.specs.Sender.{sender_answers}
use Rattle.ltp_engine.specs.Tables.{table_of}
use Rattle.ltp_engine.specs.Sides.{SenderDoes}
use Rattle.endpoint.proofs.PlacesLemmas.{on_err}
use Rattle.ltp_engine.specs.Wants.{WantsSent}
use Rattle.ltp_engine.proofs.sides.to_sender.Goals as goal

pub returns-in_ok-report-in-Report-clause-does : goal.returns-in_ok-report-in-Report-clause-does
unfolding sender_answers
returns-in_ok-report-in-Report-clause-does c = subst (λ content. SenderDoes c.args.terms.originator (policy_value c.args.terms.policy) c.args.n (sender_answers (policy_value c.args.terms.policy) (find c.args.n (table_of c.args.senders.now.entries)) (content_value content) c.args.now) c.args.senders.now.entries c.report.new.senders.entries (Some c.in_ok-report-in-Report.field-0)) (sym c.in-Report.is) c.in_ok-report-in-Report.ensures.does

pub returns-in-SenderCancelAck-clause-does : goal.returns-in-SenderCancelAck-clause-does
unfolding sender_answers
returns-in-SenderCancelAck-clause-does c = subst (λ content. SenderDoes c.args.terms.originator (policy_value c.args.terms.policy) c.args.n (sender_answers (policy_value c.args.terms.policy) (find c.args.n (table_of c.args.senders.now.entries)) (content_value content) c.args.now) c.args.senders.now.entries c.cancel_came.new.senders.entries (Some c.cancel_came.result)) (sym c.in-SenderCancelAck.is) c.cancel_came.ensures

pub returns-in_ok-cancelled-in-ReceiverCancel-clause-does : goal.returns-in_ok-cancelled-in-ReceiverCancel-clause-does
unfolding sender_answers
returns-in_ok-cancelled-in-ReceiverCancel-clause-does c = subst (λ content. SenderDoes c.args.terms.originator (policy_value c.args.terms.policy) c.args.n (sender_answers (policy_value c.args.terms.policy) (find c.args.n (table_of c.args.senders.now.entries)) (content_value content) c.args.now) c.args.senders.now.entries c.cancelled.new.senders.entries (Some c.in_ok-cancelled-in-ReceiverCancel.field-0)) (sym c.in-ReceiverCancel.is) c.in_ok-cancelled-in-ReceiverCancel.ensures.does

pub returns-in-Piece-clause-does : goal.returns-in-Piece-clause-does
unfolding sender_answers
returns-in-Piece-clause-does c = subst (λ content. SenderDoes c.args.terms.originator (policy_value c.args.terms.policy) c.args.n (sender_answers (policy_value c.args.terms.policy) (find c.args.n (table_of c.args.senders.now.entries)) (content_value content) c.args.now) c.args.senders.now.entries c.args.senders.now.entries None) (sym c.in-Piece.is) refl

pub returns-in-ReportAck-clause-does : goal.returns-in-ReportAck-clause-does
unfolding sender_answers
returns-in-ReportAck-clause-does c = subst (λ content. SenderDoes c.args.terms.originator (policy_value c.args.terms.policy) c.args.n (sender_answers (policy_value c.args.terms.policy) (find c.args.n (table_of c.args.senders.now.entries)) (content_value content) c.args.now) c.args.senders.now.entries c.args.senders.now.entries None) (sym c.in-ReportAck.is) refl

pub returns-in-SenderCancel-clause-does : goal.returns-in-SenderCancel-clause-does
unfolding sender_answers
returns-in-SenderCancel-clause-does c = subst (λ content. SenderDoes c.args.terms.originator (policy_value c.args.terms.policy) c.args.n (sender_answers (policy_value c.args.terms.policy) (find c.args.n (table_of c.args.senders.now.entries)) (content_value content) c.args.now) c.args.senders.now.entries c.args.senders.now.entries None) (sym c.in-SenderCancel.is) refl

pub returns-in-ReceiverCancelAck-clause-does : goal.returns-in-ReceiverCancelAck-clause-does
unfolding sender_answers
returns-in-ReceiverCancelAck-clause-does c = subst (λ content. SenderDoes c.args.terms.originator (policy_value c.args.terms.policy) c.args.n (sender_answers (policy_value c.args.terms.policy) (find c.args.n (table_of c.args.senders.now.entries)) (content_value content) c.args.now) c.args.senders.now.entries c.args.senders.now.entries None) (sym c.in-ReceiverCancelAck.is) refl

pub returns-in_err-report-in-Report-clause-wanted : goal.returns-in_err-report-in-Report-clause-wanted
unfolding sender_answers
returns-in_err-report-in-Report-clause-wanted c = on_err _ (subst (λ content. WantsSent (sender_answers (policy_value c.args.terms.policy) (find c.args.n (table_of c.args.senders.now.entries)) (content_value content) c.args.now)) (sym c.in-Report.is) c.in_err-report-in-Report.ensures.wanted)

pub returns-in_err-cancelled-in-ReceiverCancel-clause-wanted : goal.returns-in_err-cancelled-in-ReceiverCancel-clause-wanted
unfolding sender_answers
returns-in_err-cancelled-in-ReceiverCancel-clause-wanted c = on_err _ (subst (λ content. WantsSent (sender_answers (policy_value c.args.terms.policy) (find c.args.n (table_of c.args.senders.now.entries)) (content_value content) c.args.now)) (sym c.in-ReceiverCancel.is) c.in_err-cancelled-in-ReceiverCancel.ensures.wanted)
