use Rattle.std.proofs.Common.{refl}
use Rattle.gate_cases.specs.declared.face.Face.TheVariants as faces
use Rattle.peer_gateway.proofs.GateLemmas.{ticked-there}
use Rattle.peer_gateway.proofs.parts.Parts.tick_sessions.Goals as goal

pub returns-in-Old : goal.returns-in-Old
returns-in-Old c =
    ticked-there c.args.face faces.Old c.args.self.now (record c.args.self.now { old_face = c.tick.new.self }) c.args.answer.now c.tick.new.answer c.tick.result
    c.args.moments c.in-Old.is c.requires.whole (record { other = refl; settings = refl; gate = refl; cut = refl; counter = refl }) c.tick.ensures

pub returns-in-New : goal.returns-in-New
returns-in-New c =
    ticked-there c.args.face faces.New c.args.self.now (record c.args.self.now { new_face = c.tick-in-New.new.self }) c.args.answer.now c.tick-in-New.new.answer
    c.tick-in-New.result c.args.moments c.in-New.is c.requires.whole
    (record { other = refl; settings = refl; gate = refl; cut = refl; counter = refl }) c.tick-in-New.ensures
