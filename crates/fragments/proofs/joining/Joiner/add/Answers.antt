-- The law of pieces follows from the step.
use Rattle.fragments.proofs.AgainLemmas.{adds-again}
use Rattle.fragments.proofs.joining.Joiner.add.Goals as goal

pub returns-clause-joins_again : goal.returns-clause-joins_again
returns-clause-joins_again c = adds-again c.args.self.now.joins c.args.full.now c.added.result c.added.new.self c.added.ensures.adds
