use Rattle.path_drain.proofs.CleanLemmas.{clean-more}
use Rattle.path_drain.proofs.completion.clean_events_go_on.Goals as goal

pub returns : goal.returns
returns c = clean-more
