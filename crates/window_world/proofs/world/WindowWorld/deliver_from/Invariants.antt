use Rattle.std.proofs.Common.{◌≡◌, ◌<◌, ◌≤◌, false, true, length}
use Rattle.contact_plan.specs.Windows.{is_open}
use Rattle.ltp_world.specs.Shows.{AreBounded}
use Rattle.ltp_world.specs.Work.{left_of}
use Rattle.window_world.specs.Leads.{LeadsOn}
use Rattle.window_world.specs.Values.{RunsOnContact}
use Rattle.window_world.proofs.world.WindowWorld.deliver_from.Given as goal

abbrev pub invariant-delivering : goal.invariant-delivering
invariant-delivering l = record {
  whole : l.self.spent ≡ false;
  there : l.k ≤ length l.self.link.sent;
  open_now : l.k < length l.self.link.sent → is_open l.self.plan l.self.moment ≡ true;
  made : LeadsOn l.initial.self l.self l.initial.k l.k l.initial.steps.items l.steps.items;
  clock : l.self.link.moment ≡ l.initial.self.link.moment;
  contact : RunsOnContact l.self;
  bounds : AreBounded l.initial.self.link.engines → AreBounded l.self.link.engines;
}

abbrev pub decreases-delivering : goal.decreases-delivering
decreases-delivering l = left_of l.self.link l.k
