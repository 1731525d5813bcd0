use Rattle.link_run.proofs.DrainLemmas.{moment-from}
use Rattle.link_run.proofs.laws.moments_are_open.Goals as goal

pub returns : goal.returns
returns c = λ plan contact is low. moment-from 0 plan contact is.order low
