use Rattle.spans.proofs.Growing.{Growing}
use Rattle.spans.proofs.growth.Growth.over.Given as goal

abbrev pub invariant-loop-run : goal.invariant-loop-run
invariant-loop-run l = Growing l.to l.initial.self l.self l.runs l.taken l.run-index
