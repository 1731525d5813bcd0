use Rattle.peer_once.proofs.HeardLemmas.{kept_where_heard}
use Rattle.peer_once.proofs.laws.kept_where_heard.Goals as goal

pub returns : goal.returns
returns c = kept_where_heard
