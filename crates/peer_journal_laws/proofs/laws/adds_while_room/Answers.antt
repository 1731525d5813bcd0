use Rattle.peer_journal_laws.proofs.RoomLemmas.{adds-while-room}
use Rattle.peer_journal_laws.proofs.laws.adds_while_room.Goals as goal

pub returns : goal.returns
returns c = adds-while-room
