use Rattle.bundle_runs.proofs.LawLemmas.{earliest_decides}
use Rattle.bundle_runs.proofs.laws.earliest_place_decides.Goals as goal

pub returns : goal.returns
returns c = earliest_decides
