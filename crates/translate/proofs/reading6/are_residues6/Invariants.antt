use Rattle.std.proofs.Common.{◌≡◌, drop}
use Rattle.translate.specs.Reading6.{are_residues6}
use Rattle.translate.proofs.reading6.are_residues6.Given as goal

abbrev pub invariant-loop-i : goal.invariant-loop-i
invariant-loop-i l = are_residues6 l.bundle (drop l.i l.blocks) ≡ are_residues6 l.bundle l.blocks
