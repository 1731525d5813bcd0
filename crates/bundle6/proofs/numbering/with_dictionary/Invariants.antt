use Rattle.std.proofs.Common.{take}
use Rattle.bundle6.specs.Numbering.{lent_out}
use Rattle.bundle6.proofs.NumberingLemmas.{SoFar}
use Rattle.bundle6.proofs.numbering.with_dictionary.Given as goal

abbrev pub invariant-loop-endpoint : goal.invariant-loop-endpoint
invariant-loop-endpoint l = SoFar (lent_out (take l.endpoint-index l.endpoints)) l.gathering l.pairs.items
