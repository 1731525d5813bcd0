use Rattle.std.proofs.Common.{◌≡◌, take}
use Rattle.bundle_meaning.specs.Room.{names_room}
use Rattle.bundle_meaning.proofs.wrap_new.names_room.Given as goal

abbrev pub invariant-summing : goal.invariant-summing
invariant-summing l = l.room ≡ names_room (take l.at l.refs)
