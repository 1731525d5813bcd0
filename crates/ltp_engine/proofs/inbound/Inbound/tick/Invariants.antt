use Rattle.std.proofs.Common.{◌≡◌}
use Rattle.std.specs.Map.{keys_of}
use Rattle.ltp_segment.specs.PolicyViews.{policy_value}
use Rattle.ltp_session.specs.Engine.{untouched_all}
use Rattle.ltp_engine.specs.Tables.{table_of, by_number, AreLive}
use Rattle.ltp_engine.specs.Inbound.{inbound_of}
use Rattle.ltp_engine.specs.Ticks.{receiver_ticked}
use Rattle.ltp_engine.proofs.TableLemmas.{SoFar}
use Rattle.ltp_engine.proofs.inbound.Inbound.tick.Given as goal

abbrev pub invariant-sessions : goal.invariant-sessions
invariant-sessions l =
    (goal.iterator-sessions).can_next l.n-iterator ×
    (goal.iterator-sessions).is_finite l.n-iterator ×
    (l.self.closed ≡ l.fn.self.closed) ×
    AreLive l.fn.terms.originator (policy_value l.fn.terms.policy) l.self.receivers.entries ×
    (keys_of l.self.receivers.entries ≡ untouched_all l.ended.items (keys_of l.fn.self.receivers.entries)) ×
    SoFar l.fn.terms.originator (receiver_ticked (policy_value l.fn.terms.policy) l.fn.now) (inbound_of l.fn.self).receivers
    l.fn.effects l.n-iterator.rest.items (by_number (table_of l.self.receivers.entries)) l.told l.ended.items
