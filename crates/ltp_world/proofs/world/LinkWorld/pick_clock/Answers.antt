use Rattle.std.proofs.Common.{◌≡◌, Some, arith, rules}
use Rattle.ltp_world.specs.Clean.{deadline_in}
use Rattle.ltp_world.specs.Marks.{ticks_to}
use Rattle.ltp_world.proofs.world.LinkWorld.pick_clock.Goals as goal

pub returns-clause-does : goal.returns-clause-does
returns-clause-does c =
    let due : deadline_in c.args.self.now ≡ Some c.in-Some.deadline = search rules in
    ticks_to c.in-Some.deadline due (omega (arith, c.if-deadline-ge-NO_MOMENT.false)) c.in-Some.ensures.ahead c.in_ok-tick_to.ensures.takes
