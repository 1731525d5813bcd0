use Rattle.std.proofs.Common.{◌≡◌, drop}
use Rattle.face_room.specs.Loads.{has_room}
use Rattle.face_room.proofs.load.has_room.Given as goal

abbrev pub invariant-adding : goal.invariant-adding
invariant-adding l = has_room l.bounds l.load (drop l.size-index l.sizes) ≡ has_room l.bounds l.fn.load l.sizes
