use Rattle.peer_gateway.specs.Views.{moments_of}
use Rattle.peer_gateway.proofs.GateLemmas.{ticks-so}
use Rattle.peer_gateway.proofs.parts.Parts.tick.Goals as goal

pub returns : goal.returns
returns c =
    ticks-so c.args.self.now c.tick_face.new.self c.tick_face-2.new.self c.args.answer.now c.tick_face.new.answer c.tick_face-2.new.answer
    (moments_of c.args.moments) c.tick_face-2.result c.in_ok-tick_face.ensures c.tick_face-2.ensures
