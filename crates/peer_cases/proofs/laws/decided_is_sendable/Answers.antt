use Rattle.peer_cases.proofs.PromiseLemmas.{decided_is_sendable}
use Rattle.peer_cases.proofs.laws.decided_is_sendable.Goals as goal

pub returns : goal.returns
returns c = decided_is_sendable
