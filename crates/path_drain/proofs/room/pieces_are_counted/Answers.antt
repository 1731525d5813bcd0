use Rattle.path_drain.proofs.PieceCounts.{pieces-counted}
use Rattle.path_drain.proofs.room.pieces_are_counted.Goals as goal

pub returns : goal.returns
returns c = pieces-counted
