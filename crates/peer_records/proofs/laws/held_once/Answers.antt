use Rattle.peer_records.proofs.StepLemmas.{held-once}
use Rattle.peer_records.proofs.laws.held_once.Goals as goal

pub returns : goal.returns
returns c = held-once
