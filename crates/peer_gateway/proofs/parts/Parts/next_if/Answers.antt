use Rattle.peer_gateway.proofs.GateLemmas.{face-there}
use Rattle.peer_gateway.proofs.parts.Parts.next_if.Goals as goal

pub gathers-requires : goal.gathers-requires
gathers-requires c = face-there c.args.face c.args.self.now c.face-there.result.now c.face-there.ensures c.requires
