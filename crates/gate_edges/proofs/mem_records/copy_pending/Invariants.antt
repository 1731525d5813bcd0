use Rattle.std.proofs.Common.{◌≡◌, take}
use Rattle.gate_edges.proofs.mem_records.copy_pending.Given as goal

abbrev pub invariant-pending : goal.invariant-pending
invariant-pending l = l.copies.items ≡ take l.one-index l.pending
