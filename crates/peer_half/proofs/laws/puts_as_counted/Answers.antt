use Rattle.peer_half.proofs.PutLemmas.{puts-as-counted}
use Rattle.peer_half.proofs.laws.puts_as_counted.Goals as goal

pub returns : goal.returns
returns c = puts-as-counted
