use Rattle.ltp_segment.specs.PolicyViews.{policy_value}
use Rattle.ltp_engine.specs.Inbound.{inbound_of}
use Rattle.ltp_engine.proofs.OctetLemmas.{CellsSoFar}
use Rattle.ltp_engine.proofs.inbound.Inbound.octets.Given as goal

abbrev pub invariant-sessions : goal.invariant-sessions
invariant-sessions l =
    (goal.iterator-sessions).can_next l.receiver-iterator × (goal.iterator-sessions).is_finite l.receiver-iterator
    × CellsSoFar l.terms.originator (policy_value l.terms.policy) (inbound_of l.fn.self).receivers l.receiver-iterator l.octets
