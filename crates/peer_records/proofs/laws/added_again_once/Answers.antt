use Rattle.peer_records.proofs.AgainLemmas.{added-again-once}
use Rattle.peer_records.proofs.laws.added_again_once.Goals as goal

pub returns : goal.returns
returns c = added-again-once
