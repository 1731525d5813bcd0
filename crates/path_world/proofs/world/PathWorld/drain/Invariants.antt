use Rattle.std.proofs.Common.{◌≡◌, ◌-◌, ◌^◌, false, [], length, ◌⊎◌}
use Rattle.path_world.specs.Clean.{LeadsOn}
use Rattle.path_world.specs.Drain.{IsDueEarly}
use Rattle.path_world.specs.Shows.{AreBounded}
use Rattle.path_world.specs.Values.{path_deadline}
use Rattle.path_world.proofs.world.PathWorld.drain.Given as goal

abbrev pub invariant-ticking : goal.invariant-ticking
invariant-ticking l = record {
  whole : l.self.spent ≡ false;
  made : LeadsOn l.initial.self l.self (length l.initial.self.sent) (length l.self.sent) [] l.steps.items;
  -- nothing was done yet, or there was something to do
  begun : (path_deadline l.self ≡ path_deadline l.initial.self) ⊎ IsDueEarly (path_deadline l.initial.self);
  bounds : AreBounded l.self;
}

abbrev pub decreases-ticking : goal.decreases-ticking
decreases-ticking l = 2 ^ 62 - l.self.moment
