use Rattle.path_drain.proofs.DrainedExamples.{silent-complete}
use Rattle.path_drain.proofs.examples.a_silent_run_is_complete.Goals as goal

pub returns : goal.returns
returns c = silent-complete
