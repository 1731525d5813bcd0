use Rattle.edge_traits.proofs.FaultsLemmas.{went}
use Rattle.edge_traits.proofs.input.read_once.Goals as goal

pub returns-clause-calls : goal.returns-clause-calls
returns-clause-calls g c = went c.read.result _ _ c.read.ensures.count c.read.ensures.told
