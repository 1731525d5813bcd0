use Rattle.std.proofs.Common.{rules, sym}
use Rattle.ltp_segment.specs.PolicyViews.{policy_value}
use Rattle.ltp_engine.proofs.InboundLemmas.{room-left, none-first, room-made, first-gone}
use Rattle.ltp_engine.proofs.inbound.Inbound.make_room.Goals as goal

pub returns-then-len-most-clause-gone : goal.returns-then-len-most-clause-gone
returns-then-len-most-clause-gone c = room-left c.args.terms.sessions c.args.terms.originator (policy_value c.args.terms.policy) c.args.self.now c.len.result c.requires.live c.len.ensures.unique c.len.ensures.len c.if-len-most.true

pub returns-clause-gone : goal.returns-clause-gone
returns-clause-gone c = room-made c.args.terms.sessions c.args.terms.originator (policy_value c.args.terms.policy) c.args.self.now c.len.result (c.in-Some.gone, c.in-Some._session) c.requires.live c.len.ensures.unique c.len.ensures.len
    c.if-len-most.false (sym c.in-Some.ensures.entry)

pub returns-clause-next : goal.returns-clause-next
returns-clause-next c = first-gone c.args.terms.originator (policy_value c.args.terms.policy) c.args.self.now _ (c.in-Some.gone, c.in-Some._session) c.requires.live c.len.ensures.unique
    (sym c.in-Some.ensures.entry) c.in-Some.ensures.entries c.in_ok-close.ensures.ok

pub returns-in_default-clause-gone : goal.returns-in_default-clause-gone
returns-in_default-clause-gone c = none-first c.args.terms.sessions c.args.self.now (search rules)
