use Rattle.peer_gateway.proofs.FaceLemmas.{waited}
use Rattle.peer_gateway.proofs.faces.FaceParts.wait.Goals as goal

pub returns : goal.returns
returns c =
    waited c.args.self.now c.args.piece c.in_ok-copy.field-0 c.args.is_report c.add.new.self c.in_ok-self.field-0 c.args.answer.now c.add-2.new.self c.add-2.result
    c.requires.whole c.requires.sized c.in_ok-add.ensures.ok c.in_ok-self.ensures c.in_ok-copy.ensures c.add-2.ensures
