use Rattle.face_room.proofs.QueueLemmas.{queues_within}
use Rattle.face_room.proofs.laws.queues_within.Goals as goal

pub returns : goal.returns
returns c = queues_within
