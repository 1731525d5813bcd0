use Rattle.path_laws.proofs.RunLemmas.{whole-chunk}
use Rattle.path_laws.proofs.laws.links_run.Goals as goal

pub returns : goal.returns
returns c = λ s start events face. (whole-chunk face s start events).runs
