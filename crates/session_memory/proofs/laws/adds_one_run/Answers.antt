use Rattle.session_memory.proofs.NumberLemmas.{adds_one_run}
use Rattle.session_memory.proofs.laws.adds_one_run.Goals as goal

pub returns : goal.returns
returns c = adds_one_run
