use Rattle.std.proofs.Common.{◌<◌, ◌^◌, All}
use Rattle.gate_vectors.proofs.runs.readings.Given as goal

abbrev pub invariant-loop-moment : goal.invariant-loop-moment
invariant-loop-moment l = All (λ reading. reading.wall < 2 ^ 62) l.readings.items
