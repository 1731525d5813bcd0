use Rattle.std.proofs.Common.{rules, subst, sym, ◌+◌, arith}
use Rattle.ltp_segment.specs.PolicyViews.{policy_value}
use Rattle.ltp_engine.specs.Inbound.{inbound_of}
use Rattle.ltp_engine.proofs.OctetLemmas.{CellsSoFar, cells-start, cells-step, cells-end}
use Rattle.ltp_engine.proofs.inbound.Inbound.octets.Goals as goal

pub sessions-init : goal.sessions-init
sessions-init c = (tt, tt, cells-start c.args.terms.now.originator (policy_value c.args.terms.now.policy) c.args.self.now c.into_iter-receiver-iterator.result c.requires.live c.len-kept.ensures.unique c.requires.few c.requires.received (search rules))

pub octets-octets-requires : goal.octets-octets-requires
octets-octets-requires c = record {
  whole = (cells-step c.args.terms.now.originator (policy_value c.args.terms.now.policy) (inbound_of c.args.self.now).receivers c.in-Some.receiver.now c.next.new.self c.sessions.octets
      (subst (λ left. CellsSoFar c.args.terms.now.originator (policy_value c.args.terms.now.policy) (inbound_of c.args.self.now).receivers left c.sessions.octets) (search rules) c.sessions.invariant.2)).whole;
}

pub overflow_add-octets : goal.overflow_add-octets
overflow_add-octets c =
    let step = cells-step c.args.terms.now.originator (policy_value c.args.terms.now.policy) (inbound_of c.args.self.now).receivers c.in-Some.receiver.now c.next.new.self c.sessions.octets
    (subst (λ left. CellsSoFar c.args.terms.now.originator (policy_value c.args.terms.now.policy) (inbound_of c.args.self.now).receivers left c.sessions.octets) (search rules) c.sessions.invariant.2) in
    omega (arith, step.room, c.octets-octets.ensures)

pub sessions-preserved : goal.sessions-preserved
sessions-preserved c =
    let step = cells-step c.args.terms.now.originator (policy_value c.args.terms.now.policy) (inbound_of c.args.self.now).receivers c.in-Some.receiver.now c.next.new.self c.sessions.octets
    (subst (λ left. CellsSoFar c.args.terms.now.originator (policy_value c.args.terms.now.policy) (inbound_of c.args.self.now).receivers left c.sessions.octets) (search rules) c.sessions.invariant.2) in
    (tt, tt, subst (λ more. CellsSoFar c.args.terms.now.originator (policy_value c.args.terms.now.policy) (inbound_of c.args.self.now).receivers c.next.new.self (c.sessions.octets + more)) (sym c.octets-octets.ensures) step.next)

pub returns : goal.returns
returns c = cells-end c.args.terms.now.originator (policy_value c.args.terms.now.policy) (inbound_of c.args.self.now).receivers c.sessions.octets
    (subst (λ left. CellsSoFar c.args.terms.now.originator (policy_value c.args.terms.now.policy) (inbound_of c.args.self.now).receivers left c.sessions.octets) (search rules) c.sessions.invariant.2)
