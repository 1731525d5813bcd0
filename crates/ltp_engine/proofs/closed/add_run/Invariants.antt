use Rattle.std.proofs.Common.{◌≡◌, ◌-◌, ◌++◌}
use Rattle.std.specs.List.{range_with_len}
use Rattle.ltp_engine.specs.Elsewhere.{numbers_in}
use Rattle.ltp_engine.proofs.closed.add_run.Given as goal

abbrev pub invariant-adding : goal.invariant-adding
invariant-adding l = l.numbers.items ++ range_with_len l.n (l.run.to - l.n) ≡ l.initial.numbers.items ++ numbers_in l.run

abbrev pub decreases-adding : goal.decreases-adding
decreases-adding l = l.run.to - l.n
