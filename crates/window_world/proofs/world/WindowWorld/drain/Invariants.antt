use Rattle.std.proofs.Common.{◌≡◌, ◌<◌, ◌≤◌, ◌-◌, ◌^◌, false, true, [], length}
use Rattle.contact_plan.specs.Windows.{is_open}
use Rattle.ltp_world.specs.Shows.{AreBounded}
use Rattle.window_world.specs.Leads.{LeadsOn}
use Rattle.window_world.specs.Values.{RunsOnContact}
use Rattle.window_world.proofs.world.WindowWorld.drain.Given as goal

abbrev pub invariant-ticking : goal.invariant-ticking
invariant-ticking l = record {
  whole : l.self.spent ≡ false;
  there : l.from ≤ length l.self.link.sent;
  open_now : l.from < length l.self.link.sent → is_open l.self.plan l.self.moment ≡ true;
  made : LeadsOn l.initial.self l.self (length l.initial.self.link.sent) l.from [] l.steps.items;
  contact : RunsOnContact l.self;
  bounds : AreBounded l.initial.self.link.engines → AreBounded l.self.link.engines;
}

abbrev pub decreases-ticking : goal.decreases-ticking
decreases-ticking l = 2 ^ 62 - l.self.link.moment
