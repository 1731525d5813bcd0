use Rattle.std.proofs.Common.{refl}
use Rattle.gate_cases.specs.declared.face.Face.TheVariants as faces
use Rattle.peer_gateway.proofs.GateLemmas.{next-there, went-there}
use Rattle.peer_gateway.proofs.parts.Parts.go.Goals as goal

pub go-requires-clause-next : goal.go-requires-clause-next
go-requires-clause-next c = next-there c.args.face faces.Old c.args.self.now c.args.until c.in-Old.is c.requires.next

pub go-requires-in-New-clause-next : goal.go-requires-in-New-clause-next
go-requires-in-New-clause-next c = next-there c.args.face faces.New c.args.self.now c.args.until c.in-New.is c.requires.next

pub returns-in-Old : goal.returns-in-Old
returns-in-Old c =
    went-there c.args.face faces.Old c.args.self.now (record c.args.self.now { old_face = c.go.new.self }) c.args.answer.now c.go.new.answer c.go.result
    c.args.moments c.args.until c.in-Old.is c.requires.whole (record { other = refl; settings = refl; gate = refl; cut = refl; counter = refl }) c.go.ensures

pub returns-in-New : goal.returns-in-New
returns-in-New c =
    went-there c.args.face faces.New c.args.self.now (record c.args.self.now { new_face = c.go-in-New.new.self }) c.args.answer.now c.go-in-New.new.answer
    c.go-in-New.result c.args.moments c.args.until c.in-New.is c.requires.whole
    (record { other = refl; settings = refl; gate = refl; cut = refl; counter = refl }) c.go-in-New.ensures
