use Rattle.cells.proofs.GapLemmas.{IsFilling}
use Rattle.cells.proofs.cells.with_new.Given as goal

abbrev pub invariant-filling : goal.invariant-filling
invariant-filling l = IsFilling l.fn.log l.log l.places l.offset l.body l.at l.run-iterator
