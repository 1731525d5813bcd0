use Rattle.std.proofs.Common.{refl}
use Rattle.ltp_segment.specs.Reading.{segment_of}
use Rattle.gate_cases.specs.declared.face.Face.TheVariants as faces
use Rattle.peer_gateway.proofs.PassLemmas.{heard-there}
use Rattle.peer_gateway.proofs.parts.Parts.hear.Goals as goal

pub returns-in-Old : goal.returns-in-Old
returns-in-Old c =
    heard-there c.args.face faces.Old c.args.self.now (record c.args.self.now { old_face = c.hear.new.self }) c.args.answer.now c.hear.new.answer c.hear.result
    c.args.moments (segment_of c.args.datagram.now) c.in-Old.is c.requires.whole
    (record { other = refl; settings = refl; gate = refl; cut = refl; counter = refl }) c.hear.ensures

pub returns-in-New : goal.returns-in-New
returns-in-New c =
    heard-there c.args.face faces.New c.args.self.now (record c.args.self.now { new_face = c.hear-in-New.new.self }) c.args.answer.now c.hear-in-New.new.answer
    c.hear-in-New.result c.args.moments (segment_of c.args.datagram.now) c.in-New.is c.requires.whole
    (record { other = refl; settings = refl; gate = refl; cut = refl; counter = refl }) c.hear-in-New.ensures
