use Rattle.std.proofs.Common.{◌≡◌, false, take}
use Rattle.ltp_world.specs.Marks.{AreWithin, PicksFront}
use Rattle.ltp_world.specs.Picks.{link_picks}
use Rattle.ltp_world.specs.Shows.{AreBounded}
use Rattle.ltp_world.proofs.world.LinkWorld.drain_by.Given as goal

abbrev pub invariant-picking : goal.invariant-picking
invariant-picking l = record {
  whole : l.self.spent ≡ false;
  within : AreWithin l.marks l.self;
  made : PicksFront l.initial.self l.self (link_picks (take l.pick-index l.picks)) l.marks l.steps.items;
  bounds : AreBounded l.initial.self.engines → AreBounded l.self.engines;
}
