use Rattle.session_memory.proofs.MemoryLemmas.{forgets_by_the_second_turn}
use Rattle.session_memory.proofs.laws.forgets_by_the_second_turn.Goals as goal

pub returns : goal.returns
returns c = forgets_by_the_second_turn
