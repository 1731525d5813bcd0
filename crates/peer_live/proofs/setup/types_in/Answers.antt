use Rattle.peer_live.proofs.SetupLemmas.{types-so}
use Rattle.peer_live.proofs.setup.types_in.Goals as goal

pub returns : goal.returns
returns c = types-so c.in-Some.types c.args.blocks c.requires c.in-Some.ensures.taken
