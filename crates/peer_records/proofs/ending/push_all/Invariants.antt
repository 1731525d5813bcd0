use Rattle.std.proofs.Common.{◌≡◌, ◌++◌, map, take}
use Rattle.peer_records.specs.Records.{all_done}
use Rattle.peer_records.specs.Said.{done_of}
use Rattle.peer_records.proofs.ending.push_all.Given as goal

abbrev pub invariant-ids : goal.invariant-ids
invariant-ids l = map done_of l.ended.items ≡ map done_of l.initial.ended.items ++ all_done l.how (take l.id-index l.ids)
