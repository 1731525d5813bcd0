use Rattle.std.proofs.Common.{◌≡◌, drop}
use Rattle.translate.specs.Reading7.{residue_in7, no_residue7}
use Rattle.translate.proofs.reading7.residue7.Given as goal

abbrev pub invariant-loop-block : goal.invariant-loop-block
invariant-loop-block l =
    residue_in7 (no_residue7 l.bundle) (drop l.block-index l.blocks)
    ≡ residue_in7 (no_residue7 l.bundle) l.blocks
