use Rattle.std.proofs.Common.{refl}
use Rattle.bundle_runs.proofs.ComingLemmas.{took-none-is}
use Rattle.bundle_runs.proofs.ShowStepLemmas.{stands-start}
use Rattle.bundle_runs.proofs.show_reader.Showing.new.Goals as goal

pub returns-clause-stands : goal.returns-clause-stands
returns-clause-stands c = stands-start _ refl refl refl refl refl c.new.ensures.items (took-none-is _ c.new-2.ensures.stream c.new-2.ensures.fresh c.new-2.ensures.whole)
