use Rattle.peer_gateway.specs.Views.{moments_of}
use Rattle.peer_gateway.proofs.GateLemmas.{adds-so}
use Rattle.peer_gateway.proofs.parts.Parts.add.Goals as goal

pub returns : goal.returns
returns c =
    adds-so c.args.self.now c.wait.new.self c.go_all.new.self c.args.answer.now c.wait.new.answer c.go_all.new.answer c.args.face (moments_of c.args.moments)
    c.args.is_report c.args.piece c.go_all.result c.in_ok-wait.ensures c.go_all.ensures
