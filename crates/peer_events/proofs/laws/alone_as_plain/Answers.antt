use Rattle.peer_events.proofs.PlainLemmas.{alone-as-plain}
use Rattle.peer_events.proofs.laws.alone_as_plain.Goals as goal

pub returns : goal.returns
returns c = alone-as-plain
