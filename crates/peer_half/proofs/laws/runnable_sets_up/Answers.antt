use Rattle.peer_half.proofs.SetupLemmas.{runnable-sets-up}
use Rattle.peer_half.proofs.laws.runnable_sets_up.Goals as goal

pub returns : goal.returns
returns c = runnable-sets-up
