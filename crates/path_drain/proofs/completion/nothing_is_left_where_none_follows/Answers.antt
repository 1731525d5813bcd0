use Rattle.path_drain.proofs.CleanLemmas.{none-left}
use Rattle.path_drain.proofs.completion.nothing_is_left_where_none_follows.Goals as goal

pub returns : goal.returns
returns c = none-left
