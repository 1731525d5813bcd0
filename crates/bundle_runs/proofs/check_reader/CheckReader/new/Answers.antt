use Rattle.bundle_runs.proofs.CheckStepLemmas.{shadows-start, shadowed-start}
use Rattle.bundle_runs.proofs.check_reader.CheckReader.new.Goals as goal

pub invariant_of-result : goal.invariant_of-result
invariant_of-result c = rw c.new.ensures.is (shadowed-start _ c.new.ensures.seven)

pub returns-clause-stands : goal.returns-clause-stands
returns-clause-stands c = rw c.new.ensures.is (shadows-start _ c.new.ensures.seven)
