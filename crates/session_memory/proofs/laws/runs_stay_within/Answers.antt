use Rattle.session_memory.proofs.MemoryLemmas.{runs_stay_within}
use Rattle.session_memory.proofs.laws.runs_stay_within.Goals as goal

pub returns : goal.returns
returns c = runs_stay_within
