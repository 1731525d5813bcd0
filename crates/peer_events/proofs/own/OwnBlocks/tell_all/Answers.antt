use Rattle.std.proofs.Common.{map, sym, ◌∙◌, arith}
use Rattle.gate_events.specs.Log.{after_saying_all}
use Rattle.peer_gateway.specs.Answers.{told_seen}
use Rattle.peer_events.specs.Events as spec
use Rattle.peer_events.proofs.EventLemmas.{named-here, own-end, own-next, said-end, said-next}
use Rattle.peer_events.proofs.own.OwnBlocks.tell_all.Goals as goal

pub about_after-about-requires-clause-named : goal.about_after-about-requires-clause-named
about_after-about-requires-clause-named g c =
    named-here c.args.told.now c.told.at-index c.at-item.result c.requires.named c.told-test.true c.at-item.is

pub told-preserved : goal.told-preserved
told-preserved g c =
    let is_open = g.O.OpenSessions.opened c.args.gateway.now in
    let own = c.in_ok-tell_one.ensures.own in
    let said = c.in_ok-tell_one.ensures.said in (
      own-next is_open c.told.self c.tell_one.new.self
          (spec.own_left is_open c.args.self.now (map told_seen c.args.told.now))
          c.args.told.now c.told.at-index c.at-item.result c.told-test.true c.at-item.is own c.told.invariant.0,
      said-next is_open c.told.self c.tell_one.new.self c.told.about.now c.about_after-about.result.now c.told.log c.tell_one.new.log
          (after_saying_all (spec.events_of is_open c.args.self.now (map told_seen c.args.told.now)) c.args.log.now)
          c.args.told.now c.told.at-index c.at-item.result c.told-test.true c.at-item.is own c.about_after-about.ensures.about said c.told.invariant.1,
      c.about_after-about.ensures.named,
    )

pub returns-clause-own : goal.returns-clause-own
returns-clause-own g c =
    sym (own-end (g.O.OpenSessions.opened c.args.gateway.now) c.told.self c.args.told.now c.told.at-index (omega (arith, c.told-test.false)))
    ∙ c.told.invariant.0

pub returns-clause-said : goal.returns-clause-said
returns-clause-said g c =
    sym (said-end (g.O.OpenSessions.opened c.args.gateway.now) c.told.self c.told.about.now c.args.told.now c.told.log c.told.at-index (omega (arith, c.told-test.false)))
    ∙ c.told.invariant.1
