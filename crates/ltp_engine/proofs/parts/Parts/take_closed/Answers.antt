use Rattle.std.proofs.Common.{◌≡◌, rules, subst, sym}
use Rattle.ltp_session.specs.Engine.{is_closed}
use Rattle.ltp_engine.specs.Closed.{is_among}
use Rattle.ltp_segment.specs.PolicyViews.{policy_value}
use Rattle.ltp_engine.specs.Ties.{party_of}
use Rattle.ltp_engine.proofs.ElsewhereLemmas.{whole-reopened, reopened-live, closed-each, closed-once}
use Rattle.ltp_engine.proofs.parts.Parts.take_closed.Goals as goal

pub returns-clause-whole : goal.returns-clause-whole
returns-clause-whole c = whole-reopened (party_of c.args.self.now) c.args.self.now.next c.args.self.now.senders.entries c.args.self.now.inbound _ c.requires
    (reopened-live c.args.self.now.peer (policy_value c.args.self.now.policy) c.args.self.now.inbound _ (c.requires).others (search rules) (search rules))

pub returns-clause-once : goal.returns-clause-once
returns-clause-once c = rw (c.in_ok-numbers.ensures) (closed-once c.args.self.now.inbound.closed ((c.requires).sound).inbound.limit)

pub returns-clause-each : goal.returns-clause-each
returns-clause-each c = λ n. subst (λ ns. is_closed n ns ≡ is_among c.args.self.now.inbound.closed n) (sym c.in_ok-numbers.ensures) (closed-each c.args.self.now.inbound.closed n)
