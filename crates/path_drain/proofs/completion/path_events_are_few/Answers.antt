use Rattle.path_drain.proofs.LawLemmas.{events-few}
use Rattle.path_drain.proofs.completion.path_events_are_few.Goals as goal

pub returns : goal.returns
returns c = events-few
