use Rattle.session_memory.proofs.MemoryLemmas.{kept_for_a_time}
use Rattle.session_memory.proofs.laws.kept_for_a_time.Goals as goal

pub returns : goal.returns
returns c = kept_for_a_time
