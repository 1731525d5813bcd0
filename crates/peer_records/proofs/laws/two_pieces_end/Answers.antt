use Rattle.peer_records.proofs.ExampleLemmas.{two-pieces-end}
use Rattle.peer_records.proofs.laws.two_pieces_end.Goals as goal

pub returns : goal.returns
returns c = two-pieces-end
