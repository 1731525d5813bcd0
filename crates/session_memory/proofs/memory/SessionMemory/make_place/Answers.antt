use Rattle.std.proofs.Common.{arith}
use Rattle.session_memory.specs.Memory.{turned}
use Rattle.session_memory.proofs.NumberLemmas.{no-runs}
use Rattle.session_memory.proofs.memory.SessionMemory.make_place.Goals as goal

pub returns-clause-place : goal.returns-clause-place
unfolding turned
returns-clause-place c = λ less. rw (c.turn.ensures, no-runs) (omega (arith, less))
