use Rattle.std.proofs.Common.{◌≡◌, drop}
use Rattle.translate.specs.Reading7.{are_residues7}
use Rattle.translate.proofs.reading7.are_residues7.Given as goal

abbrev pub invariant-loop-i : goal.invariant-loop-i
invariant-loop-i l = are_residues7 l.bundle (drop l.i l.blocks) ≡ are_residues7 l.bundle l.blocks
