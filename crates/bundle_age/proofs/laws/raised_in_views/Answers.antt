use Rattle.bundle_age.proofs.ViewLemmas.{raised_in_views}
use Rattle.bundle_age.proofs.laws.raised_in_views.Goals as goal

pub returns : goal.returns
returns c = raised_in_views
