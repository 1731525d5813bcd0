use Rattle.peer_records.proofs.LeaveLemmas.{only-over-is-cleared}
use Rattle.peer_records.proofs.laws.only_over_is_cleared.Goals as goal

pub returns : goal.returns
returns c = only-over-is-cleared
