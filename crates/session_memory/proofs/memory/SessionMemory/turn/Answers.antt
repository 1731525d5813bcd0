use Rattle.std.proofs.Common.{arith}
use Rattle.session_memory.proofs.NumberLemmas.{no-runs}
use Rattle.session_memory.proofs.memory.SessionMemory.turn.Goals as goal

pub invariant_of-self : goal.invariant_of-self
invariant_of-self c = (
  rw (c.replace-newer.ensures.after, c.new.ensures, no-runs) (omega arith),
  rw c.replace-newer.ensures.value c.self.invariant.0,
  c.self.invariant.2,
)
