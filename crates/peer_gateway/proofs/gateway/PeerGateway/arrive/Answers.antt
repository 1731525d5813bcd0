use Rattle.std.proofs.Common.{sym}
use Rattle.ltp_segment.specs.Reading.{segment_of}
use Rattle.peer_gateway.specs.Steps.{a_datagram}
use Rattle.peer_gateway.specs.Views.{moments_of}
use Rattle.peer_gateway.proofs.GateLemmas.{event-so}
use Rattle.peer_gateway.proofs.gateway.PeerGateway.arrive.Goals as goal

pub returns-clause-done : goal.returns-clause-done
returns-clause-done c =
    event-so c.args.self.now c.self.inside.spent c.self.inside.parts c.find_outboxes.new.self c.arrive.new.self
    (a_datagram c.args.face (segment_of c.args.datagram.now)) (moments_of c.args.moments) c.args.outboxes c.none-answer.result c.arrive.new.answer
    (sym c.self.view_is) c.find_outboxes.ensures c.none-answer.ensures c.in_ok-arrive.ensures
