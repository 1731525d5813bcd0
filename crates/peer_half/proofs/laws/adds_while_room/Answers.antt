use Rattle.peer_half.proofs.ResumeLemmas.{adds-while-room}
use Rattle.peer_half.proofs.laws.adds_while_room.Goals as goal

pub returns : goal.returns
returns c = adds-while-room
