use Rattle.ltp_segment.specs.PolicyViews.{policy_value}
use Rattle.ltp_engine.proofs.ElsewhereLemmas.{first-some, touch-order}
use Rattle.ltp_engine.proofs.inbound.Inbound.longest_untouched.Goals as goal

pub returns-in-None-clause-order : goal.returns-in-None-clause-order
returns-in-None-clause-order c = touch-order c.args.terms.now.originator (policy_value c.args.terms.now.policy) c.args.self.now c.requires c.len-kept.ensures.unique

pub returns-in-Some-clause-first : goal.returns-in-Some-clause-first
returns-in-Some-clause-first c = first-some c.args.terms.now.originator (policy_value c.args.terms.now.policy) c.args.self.now (c.in-Some.n.now, c.in-Some._session.now) c.requires c.len-kept.ensures.unique (rw c.in-Some.is at c.first.ensures.entry)

pub returns-in-Some-clause-order : goal.returns-in-Some-clause-order
returns-in-Some-clause-order c = touch-order c.args.terms.now.originator (policy_value c.args.terms.now.policy) c.args.self.now c.requires c.len-kept.ensures.unique
