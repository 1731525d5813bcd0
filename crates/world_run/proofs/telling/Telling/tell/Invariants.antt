use Rattle.std.proofs.Common.{◌≤◌, length}
use Rattle.std.specs.String.{string_bytes}
use Rattle.world_run.specs.Telling.{TellsOn}
use Rattle.world_run.proofs.telling.Telling.tell.Given as goal

abbrev pub invariant-events : goal.invariant-events
invariant-events l = record {
  so_far : TellsOn l.initial.self l.self (string_bytes l.initial.text) (string_bytes l.text);
  few : length l.self.left.items ≤ length l.initial.self.left.items;
}

abbrev pub decreases-events : goal.decreases-events
decreases-events l = length l.self.left.items
