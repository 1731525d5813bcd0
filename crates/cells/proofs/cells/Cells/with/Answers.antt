use Rattle.cells.proofs.FilledLemmas.{covers-more}
use Rattle.cells.proofs.cells.Cells.with.Goals as goal

pub invariant_of-result : goal.invariant_of-result
invariant_of-result c =
    rw c.in_ok-log.ensures
    (covers-more c.self.inside.filled c.cover.new.self c.self.inside.log c.args.offset c.args.body.now c.self.invariant c.requires.fits c.in_ok-cover.ensures.covered)
