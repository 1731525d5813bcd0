use Rattle.ltp_segment.specs.PolicyViews.{policy_value}
use Rattle.ltp_session.specs.Receiver.{receiver_deadline}
use Rattle.ltp_engine.specs.Tables.{table_of}
use Rattle.ltp_engine.proofs.TableLemmas.{LeastSoFar}
use Rattle.ltp_engine.proofs.inbound.Inbound.next_deadline.Given as goal

abbrev pub invariant-sessions : goal.invariant-sessions
invariant-sessions l =
    (goal.iterator-sessions).can_next l.receiver-iterator ×
    (goal.iterator-sessions).is_finite l.receiver-iterator ×
    LeastSoFar l.fn.terms.originator (policy_value l.fn.terms.policy) receiver_deadline (table_of l.fn.self.receivers.entries) l.receiver-iterator l.least
