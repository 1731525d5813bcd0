use Rattle.bundle_runs.proofs.ShowStepLemmas.{keeps-one}
use Rattle.bundle_runs.proofs.show_reader.Showing.keeps_one_bundle.Goals as goal

pub returns : goal.returns
returns c = keeps-one c.args.self.now c.requires
