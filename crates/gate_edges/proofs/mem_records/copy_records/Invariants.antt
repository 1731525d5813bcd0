use Rattle.std.proofs.Common.{◌≡◌, map, take}
use Rattle.journal_file.specs.Ties.{record_of}
use Rattle.gate_edges.specs.InMemory.{value_of}
use Rattle.gate_edges.proofs.mem_records.copy_records.Given as goal

abbrev pub invariant-records : goal.invariant-records
invariant-records l = map value_of l.copies.items ≡ map record_of (take l.said-index l.records)
