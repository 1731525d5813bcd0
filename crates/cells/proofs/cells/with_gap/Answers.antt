use Rattle.std.proofs.Common.{refl}
use Rattle.std.proofs.lemmas.Bool.{lt-ltb, le-ltb}
use Rattle.cells.specs.Gaps.{filled_gap}
use Rattle.cells.proofs.cells.with_gap.Goals as goal

pub returns-then-from-to : goal.returns-then-from-to
unfolding filled_gap
returns-then-from-to c = rw (le-ltb c.args.from c.args.to c.if-from-to.true) refl

pub returns : goal.returns
unfolding filled_gap
returns c = rw (lt-ltb c.args.from c.args.to c.if-from-to.false) c.with.ensures
