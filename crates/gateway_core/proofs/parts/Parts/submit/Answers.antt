use Rattle.std.proofs.Common.{refl}
use Rattle.gate_cases.specs.declared.face.Face.TheVariants as faces
use Rattle.gateway_core.proofs.SendLemmas.{unrefused-at, submitted-at, room-taken}
use Rattle.gateway_core.proofs.parts.Parts.submit.Goals as goal

pub told_of-requires : goal.told_of-requires
told_of-requires c = unrefused-at c.args.face faces.Old c.args.self.now (record c.args.self.now { old_face = c.submit.new.self }) c.args.block.now c.args.now c.submit.result c.in-Old.is
    c.submit.ensures.does c.requires.whole c.requires.block c.requires.room

pub told_of-requires-in-New : goal.told_of-requires-in-New
told_of-requires-in-New c = unrefused-at c.args.face faces.New c.args.self.now (record c.args.self.now { new_face = c.submit-in-New.new.self }) c.args.block.now c.args.now c.submit-in-New.result c.in-New.is
    c.submit-in-New.ensures.does c.requires.whole c.requires.block c.requires.room

pub returns-in-Old-clause-done : goal.returns-in-Old-clause-done
returns-in-Old-clause-done c = submitted-at c.args.face faces.Old c.args.self.now (record c.args.self.now { old_face = c.submit.new.self }) c.args.block.now c.args.now c.submit.result c.told_of.result c.in-Old.is
    c.submit.ensures.does c.submit.ensures.bounds c.told_of.ensures c.requires.whole (record { other = refl; gate = refl; cut = refl; counter = refl })

pub returns-in-Old-clause-takes : goal.returns-in-Old-clause-takes
returns-in-Old-clause-takes c = room-taken c.args.face faces.Old c.args.self.now (record c.args.self.now { old_face = c.submit.new.self }) c.args.block.now c.args.now c.submit.result c.told_of.result c.in-Old.is
    c.submit.ensures.does c.told_of.ensures c.requires.whole

pub returns-in-New-clause-done : goal.returns-in-New-clause-done
returns-in-New-clause-done c = submitted-at c.args.face faces.New c.args.self.now (record c.args.self.now { new_face = c.submit-in-New.new.self }) c.args.block.now c.args.now c.submit-in-New.result c.told_of-in-New.result c.in-New.is
    c.submit-in-New.ensures.does c.submit-in-New.ensures.bounds c.told_of-in-New.ensures c.requires.whole (record { other = refl; gate = refl; cut = refl; counter = refl })

pub returns-in-New-clause-takes : goal.returns-in-New-clause-takes
returns-in-New-clause-takes c = room-taken c.args.face faces.New c.args.self.now (record c.args.self.now { new_face = c.submit-in-New.new.self }) c.args.block.now c.args.now c.submit-in-New.result c.told_of-in-New.result c.in-New.is
    c.submit-in-New.ensures.does c.told_of-in-New.ensures c.requires.whole
