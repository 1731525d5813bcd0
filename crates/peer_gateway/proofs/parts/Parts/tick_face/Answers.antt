use Rattle.peer_gateway.specs.Going.{due}
use Rattle.peer_gateway.specs.Views.{moments_of}
use Rattle.peer_gateway.proofs.GateLemmas.{then-ok}
use Rattle.peer_gateway.proofs.parts.Parts.tick_face.Goals as goal

pub returns : goal.returns
returns c =
    then-ok (λ s. due s (moments_of c.args.moments) c.args.face) c.args.self.now c.tick_sessions.new.self c.due.new.self c.args.answer.now c.tick_sessions.new.answer
    c.due.new.answer _ c.due.result c.in_ok-tick_sessions.ensures c.due.ensures
