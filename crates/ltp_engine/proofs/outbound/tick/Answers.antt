use Rattle.std.proofs.Common.{rules, refl, ◌∙◌, ap, []}
use Rattle.ltp_segment.specs.PolicyViews.{policy_value}
use Rattle.ltp_session.specs.Sender.{on_sender_tick}
use Rattle.ltp_engine.specs.Tables.{table_of, live_all}
use Rattle.ltp_engine.specs.Ticks.{sender_ticked}
use Rattle.ltp_engine.proofs.TableLemmas.{so_far-start, so_far-step, so_far-end, live-numbers, live-settled, live-sorted}
use Rattle.ltp_engine.proofs.outbound.tick.Goals as goal

pub sessions-init : goal.sessions-init
sessions-init c = (
  tt,
  tt,
  refl,
  refl,
  c.requires.live,
  (
    [],
    so_far-start c.args.terms.originator (sender_ticked (policy_value c.args.terms.policy) c.args.now) (table_of c.args.senders.now.entries) c.args.effects c.into_iter-n-iterator.result.rest.items []
        (live-numbers c.args.terms.originator (policy_value c.args.terms.policy) c.args.senders.now.entries c.into_iter-n-iterator.result.rest.items c.requires.live (search rules)) refl,
  ),
)

pub tick_one-requires-clause-live : goal.tick_one-requires-clause-live
tick_one-requires-clause-live c = c.sessions.invariant.4

pub sessions-preserved : goal.sessions-preserved
sessions-preserved c =
    let after_it = live-settled c.args.terms.originator (policy_value c.args.terms.policy) c.in-Some.n _ c.sessions.senders.entries c.tick_one.new.senders.entries c.in_ok-step.step c.in_ok-step.ensures.did in (
      tt,
      tt,
      refl,
      refl,
      after_it.0,
      (
        _,
        so_far-step c.args.terms.originator (sender_ticked (policy_value c.args.terms.policy) c.args.now) (λ kept. on_sender_tick (policy_value c.args.terms.policy) kept c.args.now)
            (table_of c.args.senders.now.entries) c.args.effects c.in-Some.n c.sessions.n-iterator.rest.items c.next.new.self.rest.items (table_of c.sessions.senders.entries) (table_of c.tick_one.new.senders.entries)
            c.sessions.told c.in_ok-told.told c.sessions.invariant.5.0 c.in_ok-step.step (λ s. refl) c.sessions.invariant.5.1 (search rules)
            (live-sorted c.args.terms.originator (policy_value c.args.terms.policy) c.sessions.senders.entries c.sessions.invariant.4 c.in_ok-step.ensures.ordered)
            after_it.1 c.in_ok-step.ensures.did.says c.in_ok-told.ensures,
      ),
    )

pub returns-clause-next : goal.returns-clause-next
returns-clause-next c =
    let done = so_far-end c.args.terms.originator (sender_ticked (policy_value c.args.terms.policy) c.args.now) (table_of c.args.senders.now.entries) c.args.effects c.sessions.n-iterator.rest.items
    (table_of c.sessions.senders.entries) c.sessions.told c.sessions.invariant.5.0 c.sessions.invariant.5.1 (search rules) in
    c.sessions.invariant.4 ∙ ap (λ t. live_all c.args.terms.originator (policy_value c.args.terms.policy) t) done.table_is

pub returns-clause-effects : goal.returns-clause-effects
returns-clause-effects c =
    (so_far-end c.args.terms.originator (sender_ticked (policy_value c.args.terms.policy) c.args.now) (table_of c.args.senders.now.entries) c.args.effects c.sessions.n-iterator.rest.items
    (table_of c.sessions.senders.entries) c.sessions.told c.sessions.invariant.5.0 c.sessions.invariant.5.1 (search rules)).told_is
