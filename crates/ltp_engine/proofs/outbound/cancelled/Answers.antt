use Rattle.std.proofs.Common.{rules, refl}
use Rattle.std.proofs.lemmas.Result.{IfOk-weaker}
use Rattle.ltp_session.specs.Sender.{on_receiver_cancel}
use Rattle.ltp_segment.specs.PolicyViews.{policy_value}
use Rattle.ltp_session.specs.Table.{find}
use Rattle.ltp_engine.specs.Tables.{table_of}
use Rattle.ltp_engine.proofs.TableLemmas.{whole-live, does-absent, does-kept}
use Rattle.endpoint.proofs.PlacesLemmas.{on_err}
use Rattle.ltp_engine.proofs.WantLemmas.{cancel-sends}
use Rattle.ltp_engine.proofs.outbound.cancelled.Goals as goal

pub returns-in_default-clause-does : goal.returns-in_default-clause-does
returns-in_default-clause-does c = IfOk-weaker c.cancel_acknowledged.result _ _ (λ told is. does-absent c.args.terms.originator (policy_value c.args.terms.policy) c.args.n (λ p kept. on_receiver_cancel kept c.args.reason)
    c.args.senders.now.entries c.get_mut.follows.lender-at-none.entries told c.requires.live (search rules) refl (search rules) is) c.cancel_acknowledged.ensures

pub cancelled-requires : goal.cancelled-requires
cancelled-requires c = record { whole = whole-live c.args.terms.originator (policy_value c.args.terms.policy) c.args.n c.args.senders.now.entries c.in-Some.sender.now c.requires.live (search rules) }

pub returns-clause-does : goal.returns-clause-does
returns-clause-does c = does-kept c.args.terms.originator (policy_value c.args.terms.policy) c.args.n (λ p kept. on_receiver_cancel kept c.args.reason)
    c.args.senders.now.entries (c.get_mut.follows.lender c.cancelled.new.self).entries c.sweep.new.senders.entries c.in-Some.sender.now c.cancelled.new.self c.is_over-over.result c.in_ok-step.step
    c.requires.live (search rules) c.in-Some.ensures.ordered c.in_ok-step.ensures.next c.in_ok-step.ensures.answer c.is_over-over.ensures (search rules) c.sweep.ensures

pub returns-in_default-clause-wanted : goal.returns-in_default-clause-wanted
returns-in_default-clause-wanted c = on_err c.cancel_acknowledged.result (cancel-sends (find c.args.n (table_of c.args.senders.now.entries)) c.args.reason)

pub returns-in_err-step-clause-wanted : goal.returns-in_err-step-clause-wanted
returns-in_err-step-clause-wanted c = on_err _ (cancel-sends (find c.args.n (table_of c.args.senders.now.entries)) c.args.reason)
