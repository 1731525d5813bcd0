use Rattle.std.proofs.Common.{◌≡◌, take}
use Rattle.gate_cases.specs.declared.face.Face.TheVariants.{Old, New}
use Rattle.peer_records.specs.Said.{ids_at}
use Rattle.peer_records.proofs.to_add.ToAdd.all.Given as goal

abbrev pub invariant-pending : goal.invariant-pending
invariant-pending l = l.to_add ≡ (ids_at Old (take l.one-index l.pending), ids_at New (take l.one-index l.pending))
