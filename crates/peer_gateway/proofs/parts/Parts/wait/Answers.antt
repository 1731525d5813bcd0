use Rattle.std.proofs.Common.{refl}
use Rattle.gate_cases.specs.declared.face.Face.TheVariants as faces
use Rattle.peer_gateway.proofs.GateLemmas.{sized-there, waited-there}
use Rattle.peer_gateway.proofs.parts.Parts.wait.Goals as goal

pub wait-requires-clause-sized : goal.wait-requires-clause-sized
wait-requires-clause-sized c = sized-there c.args.face faces.Old c.args.self.now c.args.piece c.in-Old.is c.requires.whole c.requires.sized

pub wait-requires-in-New-clause-sized : goal.wait-requires-in-New-clause-sized
wait-requires-in-New-clause-sized c = sized-there c.args.face faces.New c.args.self.now c.args.piece c.in-New.is c.requires.whole c.requires.sized

pub returns-in-Old : goal.returns-in-Old
returns-in-Old c =
    waited-there c.args.face faces.Old c.args.self.now (record c.args.self.now { old_face = c.wait.new.self }) c.args.answer.now c.wait.new.answer c.wait.result
    c.args.piece c.args.is_report c.in-Old.is c.requires.whole (record { other = refl; settings = refl; gate = refl; cut = refl; counter = refl }) c.wait.ensures

pub returns-in-New : goal.returns-in-New
returns-in-New c =
    waited-there c.args.face faces.New c.args.self.now (record c.args.self.now { new_face = c.wait-in-New.new.self }) c.args.answer.now c.wait-in-New.new.answer
    c.wait-in-New.result c.args.piece c.args.is_report c.in-New.is c.requires.whole
    (record { other = refl; settings = refl; gate = refl; cut = refl; counter = refl }) c.wait-in-New.ensures
