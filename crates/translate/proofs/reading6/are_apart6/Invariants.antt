use Rattle.std.proofs.Common.{◌≡◌, drop}
use Rattle.translate.specs.Reading6.{are_apart6}
use Rattle.translate.proofs.reading6.are_apart6.Given as goal

abbrev pub invariant-loop-i : goal.invariant-loop-i
invariant-loop-i l = are_apart6 (drop l.i l.blocks) ≡ are_apart6 l.blocks
