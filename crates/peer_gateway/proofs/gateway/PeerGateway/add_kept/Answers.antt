use Rattle.std.proofs.Common.{sym}
use Rattle.peer_gateway.specs.Steps.{a_kept_piece}
use Rattle.peer_gateway.specs.Views.{moments_of}
use Rattle.peer_gateway.proofs.GateLemmas.{event-so}
use Rattle.peer_gateway.proofs.gateway.PeerGateway.add_kept.Goals as goal

pub returns-clause-done : goal.returns-clause-done
returns-clause-done c =
    event-so c.args.self.now c.self.inside.spent c.self.inside.parts c.find_outboxes.new.self c.add_kept.new.self
    (a_kept_piece c.args.face c.args.octets c.args.came) (moments_of c.args.moments) c.args.outboxes c.none-answer.result c.add_kept.new.answer
    (sym c.self.view_is) c.find_outboxes.ensures c.none-answer.ensures c.in_ok-add_kept.ensures
