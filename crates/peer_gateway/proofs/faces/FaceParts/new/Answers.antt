use Rattle.peer_gateway.proofs.FaceLemmas.{starts-so}
use Rattle.peer_gateway.proofs.faces.FaceParts.new.Goals as goal

pub returns : goal.returns
returns c =
    starts-so c.in_ok-parts.parts c.put.new.self c.args.face c.args.settings c.args.keys c.args.now c.args.marks.now c.args.answer.now c.put.new.answer c.in_ok-out.out
    c.in_ok-parts.ensures c.in_ok-out.ensures c.in_ok-put.ensures
