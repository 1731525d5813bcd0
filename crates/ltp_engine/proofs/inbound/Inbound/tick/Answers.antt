use Rattle.std.proofs.Common.{rules, ◌≡◌, refl, ◌∙◌, sym, ap, subst, [], ◌∷◌, ◌++◌, if◌then◌else◌}
use Rattle.std.specs.Map.{keys_of}
use Rattle.ltp_segment.specs.PolicyViews.{policy_value}
use Rattle.ltp_session.specs.Engine.{untouched_all}
use Rattle.ltp_session.specs.Receiver.{on_receiver_tick}
use Rattle.ltp_engine.specs.Tables.{table_of, by_number}
use Rattle.ltp_engine.specs.Inbound.{inbound_of}
use Rattle.ltp_engine.specs.Ticks.{receiver_ticked, receiver_change}
use Rattle.ltp_engine.proofs.TableLemmas.{SoFar, so_far-start, so_far-step, so_far-end, room-ended}
use Rattle.ltp_engine.proofs.OrderLemmas.{ascending-by_number, numbers-step}
use Rattle.ltp_engine.proofs.ChangeLemmas.{keeps-ticked}
use Rattle.ltp_engine.proofs.inbound.Inbound.tick.Goals as goal

pub sessions-init : goal.sessions-init
sessions-init c = (
  tt,
  tt,
  refl,
  c.requires.live,
  ap (λ over. untouched_all over (keys_of c.args.self.now.receivers.entries)) (sym c.new-ended.ensures.items),
  so_far-start c.args.terms.originator (receiver_ticked (policy_value c.args.terms.policy) c.args.now) (inbound_of c.args.self.now).receivers c.args.effects c.into_iter-n-iterator.result.rest.items _
      (search rules) c.new-ended.ensures.items,
)

pub tick_one-requires-clause-live : goal.tick_one-requires-clause-live
tick_one-requires-clause-live c = c.sessions.invariant.3

pub sessions-preserved : goal.sessions-preserved
sessions-preserved c = (
  tt,
  tt,
  c.sessions.invariant.2,
  c.in_ok-step.ensures.did.live,
  subst (λ over. keys_of c.tick_one.new.receivers.entries ≡ untouched_all over (keys_of c.args.self.now.receivers.entries)) (sym c.in_ok-add_ended.ensures)
      (numbers-step c.in-Some.n _ _ c.sessions.ended.items (keys_of c.sessions.self.receivers.entries) (keys_of c.tick_one.new.receivers.entries) (keys_of c.args.self.now.receivers.entries)
      c.sessions.invariant.4 c.in_ok-step.ensures.did.numbers c.in_ok-step.ensures.over),
  subst (λ over. SoFar c.args.terms.originator (receiver_ticked (policy_value c.args.terms.policy) c.args.now) (inbound_of c.args.self.now).receivers c.args.effects
      c.next.new.self.rest.items (by_number (table_of c.tick_one.new.receivers.entries)) c.in_ok-told.told over)
      (sym (c.in_ok-add_ended.ensures ∙ ap (λ over. c.sessions.ended.items ++ (if over then c.in-Some.n ∷ [] else [])) c.in_ok-step.ensures.over))
      (so_far-step c.args.terms.originator (receiver_ticked (policy_value c.args.terms.policy) c.args.now) (λ kept. on_receiver_tick (policy_value c.args.terms.policy) kept c.args.now)
      (inbound_of c.args.self.now).receivers c.args.effects c.in-Some.n c.sessions.n-iterator.rest.items c.next.new.self.rest.items
      (by_number (table_of c.sessions.self.receivers.entries)) (by_number (table_of c.tick_one.new.receivers.entries))
      c.sessions.told c.in_ok-told.told c.sessions.ended.items c.in_ok-step.step (λ s. refl) c.sessions.invariant.5 (search rules)
      (ascending-by_number (table_of c.sessions.self.receivers.entries)) c.in_ok-step.ensures.did.next c.in_ok-step.ensures.did.says c.in_ok-told.ensures),
)

pub close_all-requires : goal.close_all-requires
close_all-requires c =
    let done = so_far-end c.args.terms.originator (receiver_ticked (policy_value c.args.terms.policy) c.args.now) (inbound_of c.args.self.now).receivers c.args.effects c.sessions.n-iterator.rest.items
    (by_number (table_of c.sessions.self.receivers.entries)) c.sessions.told c.sessions.ended.items c.sessions.invariant.5 (search rules) in
    room-ended (receiver_change (policy_value c.args.terms.policy) c.args.now) (inbound_of c.args.self.now).receivers c.sessions.ended.items c.args.self.now.closed.runs c.sessions.self.closed.runs
    done.ends (ap (λ x. x.runs) c.sessions.invariant.2) c.requires.runs

pub returns-clause-next : goal.returns-clause-next
returns-clause-next c =
    let done = so_far-end c.args.terms.originator (receiver_ticked (policy_value c.args.terms.policy) c.args.now) (inbound_of c.args.self.now).receivers c.args.effects c.sessions.n-iterator.rest.items
    (by_number (table_of c.sessions.self.receivers.entries)) c.sessions.told c.sessions.ended.items c.sessions.invariant.5 (search rules) in
    keeps-ticked c.args.terms.originator (policy_value c.args.terms.policy) c.args.now c.args.self.now c.sessions.self c.close_all.new.self c.sessions.ended.items c.sessions.invariant.3 c.sessions.invariant.4
    done.table_is done.ends c.sessions.invariant.2 c.in_ok-close_all.ensures.receivers c.in_ok-close_all.ensures.closed

pub returns-clause-effects : goal.returns-clause-effects
returns-clause-effects c =
    (so_far-end c.args.terms.originator (receiver_ticked (policy_value c.args.terms.policy) c.args.now) (inbound_of c.args.self.now).receivers c.args.effects c.sessions.n-iterator.rest.items
    (by_number (table_of c.sessions.self.receivers.entries)) c.sessions.told c.sessions.ended.items c.sessions.invariant.5 (search rules)).told_is
