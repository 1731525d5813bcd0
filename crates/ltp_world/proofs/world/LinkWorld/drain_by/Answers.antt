use Rattle.std.proofs.Common.{◌+◌, take, drop, arith, refl, subst}
use Rattle.ltp_world.specs.Marks.{PicksFront}
use Rattle.ltp_world.specs.Picks.{link_picks}
use Rattle.ltp_world.proofs.PickedLemmas.{all-taken, front-none, front-step, picks-apart}
use Rattle.ltp_world.proofs.PickedEnds.{copies-complete, pick-stops, picks-complete, picks-end}
use Rattle.ltp_world.proofs.PickedEnds.{picks-fronts, picks-refuse}
use Rattle.ltp_world.proofs.world.LinkWorld.drain_by.Goals as goal

pub picking-init : goal.picking-init
picking-init c = record {
  whole = c.requires.whole;
  within = (omega (arith, c.sent.ensures), omega (arith, c.sent-2.ensures));
  made = front-none c.args.self.now (record { first = c.sent.result; second = c.sent-2.result }) c.new-steps.result.items c.requires.whole c.sent.ensures c.sent-2.ensures c.new-steps.ensures.items;
  bounds = λ b. b;
}

pub returns-in-Err-clause-does : goal.returns-in-Err-clause-does
returns-in-Err-clause-does c =
    pick-stops c.args.self.now c.picking.self c.pick.new.self c.args.picks.now (take c.picking.pick-index c.args.picks.now) (drop (c.picking.pick-index + 1) c.args.picks.now) _ c.picking.marks
    c.picking.steps.items c.pick.new.steps.items c.in-Err.refused c.picking.invariant.made c.in-Err.ensures.does
    (picks-apart c.args.picks.now c.picking.pick-index _ _ c.picking-test.true refl)

pub picking-preserved : goal.picking-preserved
picking-preserved c = record {
  whole = c.in-Ok.ensures.does.whole;
  within = c.in-Ok.ensures.there;
  made = front-step c.args.self.now c.picking.self c.pick.new.self c.args.picks.now c.picking.pick-index _ _ c.picking.marks c.in-Ok.marks c.picking.steps.items c.pick.new.steps.items
      c.picking-test.true refl c.picking.invariant.made c.in-Ok.ensures.does;
  bounds = λ b. c.in-Ok.ensures.bounds (c.picking.invariant.bounds b) c.in-Ok.ensures.does.whole;
}

pub returns-in-Ok-drain_from-clause-does : goal.returns-in-Ok-drain_from-clause-does
returns-in-Ok-drain_from-clause-does c =
    picks-end c.args.self.now c.picking.self c.deliver_new.new.self c.drain_from.new.self c.args.picks.now c.picking.marks c.sent-from.result
    c.picking.steps.items c.deliver_new.new.steps.items c.drain_from.new.steps.items c.drained.result
    (subst (λ picks. PicksFront c.args.self.now c.picking.self (link_picks picks) c.picking.marks c.picking.steps.items)
    (all-taken c.args.picks.now c.picking.pick-index (omega (arith, c.picking-test.false))) c.picking.invariant.made)
    c.in_ok-deliver_new.ensures.done c.picking.invariant.within c.in_ok-deliver_new.ensures.grows c.sent-from.ensures c.in-Ok-drain_from.ensures.does
    c.drained.ensures.effects c.drained.ensures.events

pub returns-in-Ok-drain_from-clause-fronts : goal.returns-in-Ok-drain_from-clause-fronts
returns-in-Ok-drain_from-clause-fronts c = picks-fronts c.args.self.now c.drain_from.new.self c.args.picks.now c.drained.result (returns-in-Ok-drain_from-clause-does c)

pub returns-in-Ok-drain_from-clause-completes : goal.returns-in-Ok-drain_from-clause-completes
returns-in-Ok-drain_from-clause-completes c = picks-complete c.args.self.now c.drain_from.new.self c.args.picks.now c.drained.result (returns-in-Ok-drain_from-clause-does c)

pub returns-in-Ok-drain_from-clause-copies : goal.returns-in-Ok-drain_from-clause-copies
returns-in-Ok-drain_from-clause-copies c = copies-complete c.args.self.now c.drain_from.new.self c.args.picks.now c.drained.result (returns-in-Ok-drain_from-clause-does c)

pub returns-in-Err-drain_from-clause-does : goal.returns-in-Err-drain_from-clause-does
returns-in-Err-drain_from-clause-does c =
    picks-refuse c.args.self.now c.picking.self c.deliver_new.new.self c.drain_from.new.self c.args.picks.now c.picking.marks c.sent-from.result
    c.picking.steps.items c.deliver_new.new.steps.items c.drain_from.new.steps.items c.in-Err-drain_from.refused
    (subst (λ picks. PicksFront c.args.self.now c.picking.self (link_picks picks) c.picking.marks c.picking.steps.items)
    (all-taken c.args.picks.now c.picking.pick-index (omega (arith, c.picking-test.false))) c.picking.invariant.made)
    c.in_ok-deliver_new.ensures.done c.picking.invariant.within c.in_ok-deliver_new.ensures.grows c.sent-from.ensures c.in-Err-drain_from.ensures.does
