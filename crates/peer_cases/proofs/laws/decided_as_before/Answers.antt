use Rattle.peer_cases.proofs.BeforeLemmas.{decided_as_before}
use Rattle.peer_cases.proofs.laws.decided_as_before.Goals as goal

pub returns : goal.returns
returns c = decided_as_before
