use Rattle.path_drain.proofs.RunFacts.{nodes-red}
use Rattle.path_drain.proofs.room.nodes_send_red.Goals as goal

pub returns : goal.returns
returns c = nodes-red
