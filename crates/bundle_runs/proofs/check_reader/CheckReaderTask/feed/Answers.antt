use Rattle.bundle_runs.proofs.CheckStepLemmas.{shadowed-start}
use Rattle.bundle_runs.proofs.check_reader.CheckReaderTask.feed.Goals as goal

pub invariant_of-self-in_default : goal.invariant_of-self-in_default
invariant_of-self-in_default c = rw c.reset.ensures.is (shadowed-start _ c.reset.ensures.seven)
