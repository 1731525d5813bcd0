use Rattle.std.proofs.Common.{refl}
use Rattle.peer_gateway.proofs.FaceLemmas.{put-so}
use Rattle.peer_gateway.proofs.faces.FaceParts.put.Goals as goal

pub returns : goal.returns
returns c =
    put-so c.args.self.now _ c.send.new.queue c.args.answer.now c.send.new.self c.args.out c.requires.whole refl c.kept.ensures refl
    c.in_ok-send.ensures.queue c.in_ok-send.ensures.answer
