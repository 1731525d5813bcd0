use Rattle.std.proofs.Common.{◌-◌, ◌≤◌, length, take, drop}
use Rattle.journal_file.specs.Rising.{AllBelow, AllFrom}
use Rattle.journal_file.proofs.slots.slot_of.Given as goal

abbrev pub decreases-halving : goal.decreases-halving
decreases-halving l = l.to - l.from

abbrev pub invariant-halving : goal.invariant-halving
invariant-halving l = record {
  order : l.from ≤ l.to;
  within : l.to ≤ length l.slots;
  below : AllBelow l.id (take l.from l.slots);
  above : AllFrom l.id (drop l.to l.slots);
}
