use Rattle.std.proofs.Common.{◌≡◌, ℕ, List}
use Rattle.ltp_segment.specs.PolicyViews.{policy_value}
use Rattle.ltp_engine.specs.Tables.{table_of, AreLive}
use Rattle.ltp_engine.specs.Ticks.{sender_ticked}
use Rattle.ltp_engine.proofs.TableLemmas.{SoFar}
use Rattle.ltp_engine.proofs.outbound.tick.Given as goal

abbrev pub invariant-sessions : goal.invariant-sessions
invariant-sessions l =
    (goal.iterator-sessions).can_next l.n-iterator ×
    (goal.iterator-sessions).is_finite l.n-iterator ×
    (l.terms ≡ l.fn.terms) × (l.now ≡ l.fn.now) ×
    AreLive l.fn.terms.originator (policy_value l.fn.terms.policy) l.senders.entries ×
    ((over : List ℕ) × SoFar l.fn.terms.originator (sender_ticked (policy_value l.fn.terms.policy) l.fn.now) (table_of l.fn.senders.entries)
    l.fn.effects l.n-iterator.rest.items (table_of l.senders.entries) l.told over)
