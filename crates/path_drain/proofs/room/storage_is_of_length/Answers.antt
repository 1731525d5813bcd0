use Rattle.path_drain.proofs.PieceCounts.{storage-of_length}
use Rattle.path_drain.proofs.room.storage_is_of_length.Goals as goal

pub returns : goal.returns
returns c = storage-of_length
