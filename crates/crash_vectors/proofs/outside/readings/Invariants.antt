use Rattle.std.proofs.Common.{◌<◌, ◌^◌, All}
use Rattle.crash_vectors.proofs.outside.readings.Given as goal

abbrev pub invariant-loop-moment : goal.invariant-loop-moment
invariant-loop-moment l = All (λ reading. reading.wall < 2 ^ 62) l.readings.items
