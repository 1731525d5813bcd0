use Rattle.std.proofs.Common.{◌≡◌, ◌≤◌, false, length}
use Rattle.path_world.specs.Clean.{LeadsOn}
use Rattle.path_world.specs.Shows.{AreBounded}
use Rattle.path_world.specs.Work.{left_of}
use Rattle.path_world.proofs.world.PathWorld.deliver_from.Given as goal

abbrev pub invariant-delivering : goal.invariant-delivering
invariant-delivering l = record {
  whole : l.self.spent ≡ false;
  there : l.k ≤ length l.self.sent;
  made : LeadsOn l.initial.self l.self l.initial.k l.k l.initial.steps.items l.steps.items;
  clock : l.self.moment ≡ l.initial.self.moment;
  bounds : AreBounded l.initial.self → AreBounded l.self;
}

abbrev pub decreases-delivering : goal.decreases-delivering
decreases-delivering l = left_of l.self l.k
