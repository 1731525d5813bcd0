use Rattle.std.proofs.Common.{arith}
use Rattle.session_memory.proofs.NumberLemmas.{no-runs}
use Rattle.session_memory.proofs.memory.SessionMemory.new.Goals as goal

pub invariant_of-result : goal.invariant_of-result
invariant_of-result c = (rw (c.new.ensures, no-runs) (omega arith), rw (c.new-2.ensures, no-runs) (omega arith), c.requires)
