use Rattle.std.proofs.Common.{◌≡◌, ◌≤◌, ◌-◌, ◌^◌, false, length}
use Rattle.ltp_world.specs.Clean.{LeadsOn}
use Rattle.ltp_world.specs.Shows.{AreBounded}
use Rattle.ltp_world.proofs.world.LinkWorld.drain_from.Given as goal

abbrev pub invariant-ticking : goal.invariant-ticking
invariant-ticking l = record {
  whole : l.self.spent ≡ false;
  there : l.from ≤ length l.self.sent;
  made : LeadsOn l.initial.self l.self l.fn.from l.from l.initial.steps.items l.steps.items;
  bounds : AreBounded l.initial.self.engines → AreBounded l.self.engines;
}

abbrev pub decreases-ticking : goal.decreases-ticking
decreases-ticking l = 2 ^ 62 - l.self.moment
