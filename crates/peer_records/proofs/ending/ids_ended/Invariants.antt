use Rattle.std.proofs.Common.{◌≡◌, take}
use Rattle.peer_records.specs.Said.{ids_ended}
use Rattle.peer_records.proofs.ending.ids_ended.Given as goal

abbrev pub invariant-ids : goal.invariant-ids
invariant-ids l = l.ids.items ≡ ids_ended (take l.one-index l.ended)
