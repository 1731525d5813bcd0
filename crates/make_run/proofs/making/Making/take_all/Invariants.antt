use Rattle.std.proofs.Common.{◌≡◌}
use Rattle.path_world.specs.Drain.{ups_told}
use Rattle.world_run.specs.Shows.{steps_text}
use Rattle.make_run.specs.Making.{count_at_ends}
use Rattle.make_run.specs.Ties.{Takes}
use Rattle.make_run.proofs.making.Making.take_all.Given as goal

abbrev pub invariant-each : goal.invariant-each
invariant-each l = record {
  path : l.self.path ≡ l.initial.self.path;
  takes : Takes l.initial.self l.self (steps_text l.yielded) (count_at_ends (ups_told l.yielded));
}
