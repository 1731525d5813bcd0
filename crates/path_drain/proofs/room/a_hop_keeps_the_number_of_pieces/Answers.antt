use Rattle.path_drain.proofs.PieceCounts.{passage-keeps}
use Rattle.path_drain.proofs.room.a_hop_keeps_the_number_of_pieces.Goals as goal

pub returns : goal.returns
returns c = passage-keeps
