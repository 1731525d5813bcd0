use Rattle.session_memory.proofs.NumberLemmas.{numbers_have}
use Rattle.session_memory.proofs.laws.numbers_have.Goals as goal

pub returns-clause-have : goal.returns-clause-have
returns-clause-have c = numbers_have
