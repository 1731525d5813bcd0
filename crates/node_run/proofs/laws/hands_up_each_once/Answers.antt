use Rattle.node_run.proofs.RedPartLemmas.{each_once}
use Rattle.node_run.proofs.laws.hands_up_each_once.Goals as goal

pub returns : goal.returns
returns c = each_once c.hands_up_each_once.ensures
