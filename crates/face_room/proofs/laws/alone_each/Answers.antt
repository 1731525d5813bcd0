use Rattle.face_room.proofs.RoomLemmas.{alone_each}
use Rattle.face_room.proofs.laws.alone_each.Goals as goal

pub returns : goal.returns
returns c = alone_each
