use Rattle.session_memory.proofs.MemoryLemmas.{touched_anew}
use Rattle.session_memory.proofs.laws.touched_anew.Goals as goal

pub returns : goal.returns
returns c = touched_anew
