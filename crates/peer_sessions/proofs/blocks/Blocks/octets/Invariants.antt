use Rattle.std.proofs.Common.{◌≡◌, ◌+◌, drop, map}
use Rattle.face_room.specs.Faces.{total}
use Rattle.peer_sessions.proofs.blocks.Blocks.octets.Given as goal

abbrev pub invariant-counting : goal.invariant-counting
invariant-counting l = l.sum + total (map (λ block. block.octets) (drop l.block-index l.block-items)) ≡ total (map (λ block. block.octets) l.self)
