use Rattle.std.proofs.Common.{◌≡◌, ◌++◌, map, take}
use Rattle.peer_records.specs.Said.{said_by, done_of}
use Rattle.peer_records.proofs.ending.say_ended.Given as goal

abbrev pub invariant-ended : goal.invariant-ended
invariant-ended l = map said_by l.records.items ≡ map said_by l.initial.records.items ++ map done_of (take l.one-index l.ended)
