use Rattle.sdnv.proofs.ShortestLemmas.{spelling-shortest, spelling-again}
use Rattle.sdnv.proofs.writing.spells_shortest.Goals as goal

pub returns-clause-shortest : goal.returns-clause-shortest
returns-clause-shortest c = spelling-shortest

pub returns-clause-again : goal.returns-clause-again
returns-clause-again c = spelling-again
