use Rattle.bundle_runs.specs.Given.{IsRead}
use Rattle.bundle_runs.proofs.BegunLemmas.{took-none}
use Rattle.bundle_runs.proofs.bundle_reader.Standing.begin.Goals as goal

pub returns-in-None : goal.returns-in-None
returns-in-None c = took-none IsRead c.args.self.now c.args.left.now c.requires.none c.in-None.ensures
