use Rattle.link_run.proofs.LawLemmas.{links-keep-law}
use Rattle.link_run.proofs.laws.links_keep_law.Goals as goal

pub returns : goal.returns
returns c = links-keep-law
