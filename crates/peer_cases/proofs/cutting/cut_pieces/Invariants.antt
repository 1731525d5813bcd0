use Rattle.std.proofs.Common.{length}
use Rattle.peer_cases.proofs.CutLemmas.{Making}
use Rattle.peer_cases.proofs.cutting.cut_pieces.Given as goal

abbrev pub invariant-cutting : goal.invariant-cutting
invariant-cutting l = record { making : Making l.settings l.to l.room l.initial.cutter l.cutter l.pieces l.load }

abbrev pub decreases-cutting : goal.decreases-cutting
decreases-cutting l = length l.cutter
