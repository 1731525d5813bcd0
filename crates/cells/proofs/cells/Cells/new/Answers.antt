use Rattle.cells.specs.declared.cells.TheConstants.{PLACES_MAX}
use Rattle.cells.proofs.FilledLemmas.{covers-none}
use Rattle.cells.proofs.cells.Cells.new.Goals as goal

pub invariant_of-result : goal.invariant_of-result
invariant_of-result c = rw c.new.ensures (covers-none c.new-2.result PLACES_MAX c.new-2.ensures.uncovered)
