use Rattle.ltp_segment.specs.Reading.{segment_of}
use Rattle.peer_gateway.specs.Views.{moments_of}
use Rattle.peer_gateway.proofs.PassLemmas.{arrives-so}
use Rattle.peer_gateway.proofs.parts.Parts.arrive.Goals as goal

pub returns : goal.returns
returns c =
    arrives-so c.args.self.now c.hear.new.self c.pass_all.new.self c.due_if.new.self c.args.answer.now c.hear.new.answer c.pass_all.new.answer c.due_if.new.answer
    c.args.face (moments_of c.args.moments) (segment_of c.args.datagram.now) c.in_ok-heard.heard c.as_slice.result.now c.due_if.result c.in_ok-heard.ensures
    c.as_slice.ensures c.in_ok-pass_all.ensures c.due_if.ensures
