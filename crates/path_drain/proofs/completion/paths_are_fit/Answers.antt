use Rattle.path_drain.proofs.PolicyLemmas.{paths-fit}
use Rattle.path_drain.proofs.completion.paths_are_fit.Goals as goal

pub returns : goal.returns
returns c = paths-fit
