use Rattle.link_run.proofs.EndingLemmas.{unset-writes}
use Rattle.link_run.proofs.link.Link.new.Goals as goal

pub returns-clause-fresh : goal.returns-clause-fresh
returns-clause-fresh c = λ state shows began. unset-writes state shows.1
