use Rattle.peer_half.proofs.EventLemmas.{reads-moments}
use Rattle.peer_half.proofs.laws.reads_moments.Goals as goal

pub returns : goal.returns
returns c = reads-moments
