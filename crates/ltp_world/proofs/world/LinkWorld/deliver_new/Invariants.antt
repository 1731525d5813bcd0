use Rattle.std.proofs.Common.{◌≡◌, ◌≤◌, false, length}
use Rattle.ltp_world.specs.Marks.{AreWithin, RestTo, least_mark}
use Rattle.ltp_world.specs.Shows.{AreBounded}
use Rattle.ltp_world.specs.Work.{left_of}
use Rattle.ltp_world.proofs.world.LinkWorld.deliver_new.Given as goal

abbrev pub invariant-delivering : goal.invariant-delivering
invariant-delivering l = record {
  whole : l.self.spent ≡ false;
  there : l.k ≤ length l.self.sent;
  grew : length l.initial.self.sent ≤ length l.self.sent;
  within : AreWithin l.marks l.self;
  made : RestTo l.initial.self l.self (least_mark l.marks) l.k l.marks l.initial.steps.items l.steps.items;
  bounds : AreBounded l.initial.self.engines → AreBounded l.self.engines;
}

abbrev pub decreases-delivering : goal.decreases-delivering
decreases-delivering l = left_of l.self l.k
