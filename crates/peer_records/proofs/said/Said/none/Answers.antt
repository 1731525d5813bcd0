use Rattle.std.proofs.Common.{sym, ap}
use Rattle.journal_file.specs.Values.{KeptValue}
use Rattle.gate_records.specs.Keeping.{octets_of}
use Rattle.peer_records.proofs.said.Said.none.Goals as goal

pub invariant_of-result : goal.invariant_of-result
unfolding octets_of
invariant_of-result c = sym (ap (λ (k : KeptValue). octets_of k.pending) c.new.ensures)
