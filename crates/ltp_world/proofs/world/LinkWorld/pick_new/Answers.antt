use Rattle.std.proofs.Common.{arith}
use Rattle.ltp_world.proofs.PickLemmas.{searched-clock, searched-late, searched-nothing}
use Rattle.ltp_world.proofs.PickLemmas.{takes-oldest}
use Rattle.ltp_world.proofs.world.LinkWorld.pick_new.Goals as goal

pub returns-then-at-sent-clause-does : goal.returns-then-at-sent-clause-does
returns-then-at-sent-clause-does c =
    takes-oldest c.args.self.now c.deliver_step.new.self c.args.marks c.with.result c.args.end c.of.result c.next_new-at.result c.args.steps.now.items c.deliver_step.new.steps.items
    c.in_ok-deliver_step.ensures.takes c.of.ensures c.next_new-at.ensures.first (omega (arith, c.if-at-sent.true, c.sent.ensures)) c.with.ensures

pub returns-then-other-sent-clause-does : goal.returns-then-other-sent-clause-does
returns-then-other-sent-clause-does c =
    searched-nothing c.args.self.now c.args.marks c.with-2.result c.with-marks.result c.args.end c.other-peer.result c.of.result c.next_new-at.result c.of-2.result c.next_new-other.result
    c.args.steps.now.items c.requires.whole (record {
      is_m = c.of.ensures;
      first = c.next_new-at.ensures.first;
      high = omega (arith, c.if-at-sent.false, c.sent.ensures);
      is_peer = c.other-peer.ensures;
      is_m' = c.of-2.ensures;
      second = c.next_new-other.ensures.first;
      is1 = c.with-2.ensures;
      is' = c.with-marks.ensures;
    }) (omega (arith, c.if-other-sent.true, c.sent-2.ensures))

pub returns-in-Ok-clause-does : goal.returns-in-Ok-clause-does
returns-in-Ok-clause-does c =
    searched-clock c.args.self.now c.pick_clock.new.self c.args.marks c.with-2.result c.with-marks.result c.args.end c.other-peer.result c.of.result c.next_new-at.result c.of-2.result c.next_new-other.result
    c.args.steps.now.items c.pick_clock.new.steps.items c.requires.whole c.in-Ok.ensures.does (record {
      is_m = c.of.ensures;
      first = c.next_new-at.ensures.first;
      high = omega (arith, c.if-at-sent.false, c.sent.ensures);
      is_peer = c.other-peer.ensures;
      is_m' = c.of-2.ensures;
      second = c.next_new-other.ensures.first;
      is1 = c.with-2.ensures;
      is' = c.with-marks.ensures;
    }) (omega (arith, c.if-other-sent.false, c.sent-2.ensures))

pub returns-in-Err-clause-does : goal.returns-in-Err-clause-does
returns-in-Err-clause-does c =
    searched-late c.args.self.now c.pick_clock.new.self c.args.marks c.with-2.result c.with-marks.result c.args.end c.other-peer.result c.of.result c.next_new-at.result c.of-2.result c.next_new-other.result
    c.args.steps.now.items c.pick_clock.new.steps.items c.in-Err.refused c.in-Err.ensures.does (record {
      is_m = c.of.ensures;
      first = c.next_new-at.ensures.first;
      high = omega (arith, c.if-at-sent.false, c.sent.ensures);
      is_peer = c.other-peer.ensures;
      is_m' = c.of-2.ensures;
      second = c.next_new-other.ensures.first;
      is1 = c.with-2.ensures;
      is' = c.with-marks.ensures;
    }) (omega (arith, c.if-other-sent.false, c.sent-2.ensures))
