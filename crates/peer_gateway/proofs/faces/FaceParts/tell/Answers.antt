use Rattle.peer_gateway.proofs.FaceLemmas.{tells}
use Rattle.peer_gateway.proofs.faces.FaceParts.tell.Goals as goal

pub returns : goal.returns
returns c =
    tells c.args.self.now c.put.new.self c.args.answer.now c.put.new.answer c.tell_gone.new.self c.tell_forgotten.new.self c.tell_notes.new.self
    c.tell_greens.new.self c.args.told c.as_slice.result.now c.in_ok-put.ensures c.as_slice.ensures.value c.in_ok-tell_gone.ensures c.in_ok-tell_forgotten.ensures c.in_ok-tell_notes.ensures
    c.in_ok-tell_greens.ensures
