use Rattle.std.proofs.Common.{sym}
use Rattle.session_memory.proofs.NumberLemmas.{no-runs}
use Rattle.session_memory.proofs.numbers.Numbers.new.Goals as goal

pub invariant_of-result : goal.invariant_of-result
invariant_of-result c = (c.new.ensures.limit, rw c.new.ensures.uncovered (sym no-runs))
