use Rattle.peer_records.proofs.PieceLemmas.{pieces-are-pending}
use Rattle.peer_records.proofs.laws.pieces_are_pending.Goals as goal

pub returns : goal.returns
returns c = pieces-are-pending
