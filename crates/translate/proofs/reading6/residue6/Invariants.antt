use Rattle.std.proofs.Common.{◌≡◌, drop}
use Rattle.translate.specs.Reading6.{residue_in6}
use Rattle.translate.proofs.reading6.residue6.Given as goal

abbrev pub invariant-loop-block : goal.invariant-loop-block
invariant-loop-block l = residue_in6 (drop l.block-index l.blocks) ≡ residue_in6 l.blocks
