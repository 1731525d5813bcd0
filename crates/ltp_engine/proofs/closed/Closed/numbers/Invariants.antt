use Rattle.std.proofs.Common.{◌≡◌, ◌++◌}
use Rattle.std.specs.List.{flat_map}
use Rattle.spans.specs.Places.{runs_of}
use Rattle.ltp_engine.specs.Elsewhere.{numbers_in}
use Rattle.ltp_engine.proofs.closed.Closed.numbers.Given as goal

abbrev pub invariant-runs : goal.invariant-runs
invariant-runs l =
    (goal.iterator-runs).can_next l.run-iterator × (goal.iterator-runs).is_finite l.run-iterator
    × (l.numbers.items ++ flat_map numbers_in l.run-iterator ≡ flat_map numbers_in (runs_of l.self.places))
