use Rattle.peer_events.proofs.EndLemmas.{ends-say}
use Rattle.peer_events.proofs.laws.ends_say_blocks.Goals as goal

pub returns : goal.returns
returns c = ends-say
