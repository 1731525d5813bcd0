use Rattle.std.proofs.Common.{◌≡◌, ◌+◌, drop}
use Rattle.std.specs.List.{sum_by}
use Rattle.face_room.specs.Bounds.{need}
use Rattle.face_room.specs.Faces.{sizes_of}
use Rattle.peer_gateway.proofs.waits.needs_in.Given as goal

abbrev pub invariant-needing : goal.invariant-needing
invariant-needing l =
    l.needs + sum_by (need l.segment) (sizes_of (drop l.piece-index l.pieces)) ≡ sum_by (need l.segment) (sizes_of l.pieces)
