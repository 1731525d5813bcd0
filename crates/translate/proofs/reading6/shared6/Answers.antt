use Rattle.translate.proofs.Sound6Lemmas.{unrefused6, takes6}
use Rattle.translate.proofs.reading6.shared6.Goals as goal

pub content6-requires-clause-mask : goal.content6-requires-clause-mask
content6-requires-clause-mask c =
    rw (c.residue6-residue.ensures, c.as_slice-blocks.ensures) (takes6 c.args.bundle.now (unrefused6 c.args.bundle.now c.requires))
