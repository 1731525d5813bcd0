use Rattle.ltp_segment.specs.PolicyViews.{policy_value}
use Rattle.ltp_session.specs.Sender.{sender_deadline}
use Rattle.ltp_engine.specs.Tables.{table_of}
use Rattle.ltp_engine.proofs.TableLemmas.{LeastSoFar}
use Rattle.ltp_engine.proofs.outbound.next_deadline.Given as goal

abbrev pub invariant-sessions : goal.invariant-sessions
invariant-sessions l =
    (goal.iterator-sessions).can_next l.sender-iterator ×
    (goal.iterator-sessions).is_finite l.sender-iterator ×
    LeastSoFar l.fn.terms.originator (policy_value l.fn.terms.policy) sender_deadline (table_of l.fn.senders.entries) l.sender-iterator l.least
