use Rattle.std.proofs.Common.{rules, refl}
use Rattle.std.proofs.lemmas.Result.{IfOk-weaker}
use Rattle.ltp_session.specs.Sender.{on_report}
use Rattle.ltp_segment.specs.Views.{report_value}
use Rattle.ltp_segment.specs.PolicyViews.{policy_value}
use Rattle.ltp_engine.proofs.TableLemmas.{whole-live, does-absent, does-kept}
use Rattle.endpoint.proofs.PlacesLemmas.{on_err}
use Rattle.ltp_engine.proofs.WantLemmas.{sends-kept, sends-absent, some-sends}
use Rattle.ltp_engine.proofs.outbound.report.Goals as goal

pub returns-in_default-clause-does : goal.returns-in_default-clause-does
returns-in_default-clause-does c = IfOk-weaker c.acknowledged.result _ _ (λ told is. does-absent c.args.terms.originator (policy_value c.args.terms.policy) c.args.n (λ p kept. on_report p kept (report_value c.args.report) c.args.now)
    c.args.senders.now.entries c.get_mut.follows.lender-at-none.entries told c.requires.live (search rules) refl (search rules) is) c.acknowledged.ensures

pub report-requires-clause-whole : goal.report-requires-clause-whole
report-requires-clause-whole c = whole-live c.args.terms.originator (policy_value c.args.terms.policy) c.args.n c.args.senders.now.entries c.in-Some.sender.now c.requires.live (search rules)

pub returns-clause-does : goal.returns-clause-does
returns-clause-does c = does-kept c.args.terms.originator (policy_value c.args.terms.policy) c.args.n (λ p kept. on_report p kept (report_value c.args.report) c.args.now)
    c.args.senders.now.entries (c.get_mut.follows.lender c.report.new.self).entries c.sweep.new.senders.entries c.in-Some.sender.now c.report.new.self c.is_over-over.result c.in_ok-step.step
    c.requires.live (search rules) c.in-Some.ensures.ordered c.in_ok-step.ensures.next c.in_ok-step.ensures.answer c.is_over-over.ensures (search rules) c.sweep.ensures

pub returns-in_default-clause-wanted : goal.returns-in_default-clause-wanted
returns-in_default-clause-wanted c = on_err c.acknowledged.result (sends-absent c.args.terms.originator (policy_value c.args.terms.policy) c.args.n (λ p kept. on_report p kept (report_value c.args.report) c.args.now)
    c.args.senders.now.entries c.requires.live (search rules) (some-sends _ _))

pub returns-in_err-step-clause-wanted : goal.returns-in_err-step-clause-wanted
returns-in_err-step-clause-wanted c = on_err _ (sends-kept c.args.terms.originator (policy_value c.args.terms.policy) c.args.n (λ p kept. on_report p kept (report_value c.args.report) c.args.now)
    c.args.senders.now.entries c.in-Some.sender.now c.requires.live (search rules) c.in_err-step.ensures.wanted)
