use Rattle.std.proofs.Common.{refl, sym, subst, Some, None}
use Rattle.ltp_segment.specs.PolicyViews.{policy_value}
use Rattle.ltp_segment.specs.Views.{content_value}
use Rattle.ltp_session.specs.Table.{find}
use Rattle.ltp_segment.specs.declared.session.TheConstants.{BLOCK_MAX}
use Rattle.ltp_session.specs.Receiver.{receiver_answers, on_report_ack, on_sender_cancel, on_receiver_cancel_ack}
use Rattle.ltp_engine.specs.Inbound.{admission_in, inbound_of}
use Rattle.ltp_engine.specs.Sides.{ReceiverDoes}
use Rattle.ltp_engine.proofs.InboundLemmas.{takes-of}
use Rattle.endpoint.proofs.PlacesLemmas.{on_err}
use Rattle.ltp_engine.specs.Wants.{WantsReceived}
use Rattle.ltp_engine.proofs.sides.to_receiver.Goals as goal

pub returns-in_ok-piece-in-Piece-clause-does : goal.returns-in_ok-piece-in-Piece-clause-does
unfolding receiver_answers
returns-in_ok-piece-in-Piece-clause-does c = subst (λ content. ReceiverDoes c.args.terms.originator (policy_value c.args.terms.policy) c.args.terms.sessions c.args.n (receiver_answers (policy_value c.args.terms.policy) (admission_in (inbound_of c.args.inbound.now) BLOCK_MAX c.args.terms.history c.args.n) (find c.args.n (inbound_of c.args.inbound.now).receivers) (content_value content) c.args.now) c.args.inbound.now c.piece.new.self (Some c.in_ok-piece-in-Piece.field-0)) (sym c.in-Piece.is) c.in_ok-piece-in-Piece.ensures.takes

pub returns-in_ok-acknowledged-in-ReportAck-clause-does : goal.returns-in_ok-acknowledged-in-ReportAck-clause-does
unfolding receiver_answers
returns-in_ok-acknowledged-in-ReportAck-clause-does c = subst (λ content. ReceiverDoes c.args.terms.originator (policy_value c.args.terms.policy) c.args.terms.sessions c.args.n (receiver_answers (policy_value c.args.terms.policy) (admission_in (inbound_of c.args.inbound.now) BLOCK_MAX c.args.terms.history c.args.n) (find c.args.n (inbound_of c.args.inbound.now).receivers) (content_value content) c.args.now) c.args.inbound.now c.acknowledged.new.self (Some (None, c.in_ok-acknowledged-in-ReportAck.field-0))) (sym c.in-ReportAck.is) (takes-of c.args.terms.originator (policy_value c.args.terms.policy) c.args.terms.sessions c.args.n (λ kept. on_report_ack kept c.in-ReportAck.serial) c.args.inbound.now c.acknowledged.new.self c.in_ok-acknowledged-in-ReportAck.field-0 c.in_ok-acknowledged-in-ReportAck.ensures.does refl)

pub returns-in_ok-cancelled-in-SenderCancel-clause-does : goal.returns-in_ok-cancelled-in-SenderCancel-clause-does
unfolding receiver_answers
returns-in_ok-cancelled-in-SenderCancel-clause-does c = subst (λ content. ReceiverDoes c.args.terms.originator (policy_value c.args.terms.policy) c.args.terms.sessions c.args.n (receiver_answers (policy_value c.args.terms.policy) (admission_in (inbound_of c.args.inbound.now) BLOCK_MAX c.args.terms.history c.args.n) (find c.args.n (inbound_of c.args.inbound.now).receivers) (content_value content) c.args.now) c.args.inbound.now c.cancelled.new.self (Some (None, c.in_ok-cancelled-in-SenderCancel.field-0))) (sym c.in-SenderCancel.is) (takes-of c.args.terms.originator (policy_value c.args.terms.policy) c.args.terms.sessions c.args.n (λ kept. on_sender_cancel kept c.in-SenderCancel.reason) c.args.inbound.now c.cancelled.new.self c.in_ok-cancelled-in-SenderCancel.field-0 c.in_ok-cancelled-in-SenderCancel.ensures.does refl)

pub returns-in_ok-cancel_came-in-ReceiverCancelAck-clause-does : goal.returns-in_ok-cancel_came-in-ReceiverCancelAck-clause-does
unfolding receiver_answers
returns-in_ok-cancel_came-in-ReceiverCancelAck-clause-does c = subst (λ content. ReceiverDoes c.args.terms.originator (policy_value c.args.terms.policy) c.args.terms.sessions c.args.n (receiver_answers (policy_value c.args.terms.policy) (admission_in (inbound_of c.args.inbound.now) BLOCK_MAX c.args.terms.history c.args.n) (find c.args.n (inbound_of c.args.inbound.now).receivers) (content_value content) c.args.now) c.args.inbound.now c.cancel_came.new.self (Some (None, c.in_ok-cancel_came-in-ReceiverCancelAck.field-0))) (sym c.in-ReceiverCancelAck.is) (takes-of c.args.terms.originator (policy_value c.args.terms.policy) c.args.terms.sessions c.args.n (λ kept. on_receiver_cancel_ack kept) c.args.inbound.now c.cancel_came.new.self c.in_ok-cancel_came-in-ReceiverCancelAck.field-0 c.in_ok-cancel_came-in-ReceiverCancelAck.ensures.does refl)

pub returns-in-Report-clause-does : goal.returns-in-Report-clause-does
unfolding receiver_answers
returns-in-Report-clause-does c = subst (λ content. ReceiverDoes c.args.terms.originator (policy_value c.args.terms.policy) c.args.terms.sessions c.args.n (receiver_answers (policy_value c.args.terms.policy) (admission_in (inbound_of c.args.inbound.now) BLOCK_MAX c.args.terms.history c.args.n) (find c.args.n (inbound_of c.args.inbound.now).receivers) (content_value content) c.args.now) c.args.inbound.now c.args.inbound.now None) (sym c.in-Report.is) refl

pub returns-in-SenderCancelAck-clause-does : goal.returns-in-SenderCancelAck-clause-does
unfolding receiver_answers
returns-in-SenderCancelAck-clause-does c = subst (λ content. ReceiverDoes c.args.terms.originator (policy_value c.args.terms.policy) c.args.terms.sessions c.args.n (receiver_answers (policy_value c.args.terms.policy) (admission_in (inbound_of c.args.inbound.now) BLOCK_MAX c.args.terms.history c.args.n) (find c.args.n (inbound_of c.args.inbound.now).receivers) (content_value content) c.args.now) c.args.inbound.now c.args.inbound.now None) (sym c.in-SenderCancelAck.is) refl

pub returns-in-ReceiverCancel-clause-does : goal.returns-in-ReceiverCancel-clause-does
unfolding receiver_answers
returns-in-ReceiverCancel-clause-does c = subst (λ content. ReceiverDoes c.args.terms.originator (policy_value c.args.terms.policy) c.args.terms.sessions c.args.n (receiver_answers (policy_value c.args.terms.policy) (admission_in (inbound_of c.args.inbound.now) BLOCK_MAX c.args.terms.history c.args.n) (find c.args.n (inbound_of c.args.inbound.now).receivers) (content_value content) c.args.now) c.args.inbound.now c.args.inbound.now None) (sym c.in-ReceiverCancel.is) refl

pub returns-in_err-piece-in-Piece-clause-wanted : goal.returns-in_err-piece-in-Piece-clause-wanted
unfolding receiver_answers
returns-in_err-piece-in-Piece-clause-wanted c = on_err _ (subst (λ content. WantsReceived (find c.args.n (inbound_of c.args.inbound.now).receivers) (receiver_answers (policy_value c.args.terms.policy) (admission_in (inbound_of c.args.inbound.now) BLOCK_MAX c.args.terms.history c.args.n) (find c.args.n (inbound_of c.args.inbound.now).receivers) (content_value content) c.args.now)) (sym c.in-Piece.is) c.in_err-piece-in-Piece.ensures.wanted)

pub returns-in_err-acknowledged-in-ReportAck-clause-wanted : goal.returns-in_err-acknowledged-in-ReportAck-clause-wanted
unfolding receiver_answers
returns-in_err-acknowledged-in-ReportAck-clause-wanted c = on_err _ (subst (λ content. WantsReceived (find c.args.n (inbound_of c.args.inbound.now).receivers) (receiver_answers (policy_value c.args.terms.policy) (admission_in (inbound_of c.args.inbound.now) BLOCK_MAX c.args.terms.history c.args.n) (find c.args.n (inbound_of c.args.inbound.now).receivers) (content_value content) c.args.now)) (sym c.in-ReportAck.is) c.in_err-acknowledged-in-ReportAck.ensures.wanted)

pub returns-in_err-cancelled-in-SenderCancel-clause-wanted : goal.returns-in_err-cancelled-in-SenderCancel-clause-wanted
unfolding receiver_answers
returns-in_err-cancelled-in-SenderCancel-clause-wanted c = on_err _ (subst (λ content. WantsReceived (find c.args.n (inbound_of c.args.inbound.now).receivers) (receiver_answers (policy_value c.args.terms.policy) (admission_in (inbound_of c.args.inbound.now) BLOCK_MAX c.args.terms.history c.args.n) (find c.args.n (inbound_of c.args.inbound.now).receivers) (content_value content) c.args.now)) (sym c.in-SenderCancel.is) c.in_err-cancelled-in-SenderCancel.ensures.wanted)

pub returns-in_err-cancel_came-in-ReceiverCancelAck-clause-wanted : goal.returns-in_err-cancel_came-in-ReceiverCancelAck-clause-wanted
unfolding receiver_answers
returns-in_err-cancel_came-in-ReceiverCancelAck-clause-wanted c = on_err _ (subst (λ content. WantsReceived (find c.args.n (inbound_of c.args.inbound.now).receivers) (receiver_answers (policy_value c.args.terms.policy) (admission_in (inbound_of c.args.inbound.now) BLOCK_MAX c.args.terms.history c.args.n) (find c.args.n (inbound_of c.args.inbound.now).receivers) (content_value content) c.args.now)) (sym c.in-ReceiverCancelAck.is) c.in_err-cancel_came-in-ReceiverCancelAck.ensures.wanted)
