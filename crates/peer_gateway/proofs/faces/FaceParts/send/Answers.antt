use Rattle.peer_gateway.proofs.FaceLemmas.{begun-face, sends-ok}
use Rattle.peer_gateway.proofs.faces.FaceParts.send.Goals as goal

pub put-requires : goal.put-requires
put-requires c =
    record { whole = begun-face c.args.self.now c.submit.new.self _ c.in_ok-effects.effects c.requires.whole c.in_ok-effects.ensures.done }

pub returns : goal.returns
returns c =
    sends-ok c.args.self.now c.submit.new.self c.put.new.self c.args.answer.now c.put.new.answer _ c.in_ok-effects.effects c.put.result
    c.in_ok-effects.ensures.done c.put.ensures
