use Rattle.std.proofs.Common.{sym, ◌∙◌, ap}
use Rattle.gate_cases.specs.declared.face.Face.TheVariants as faces
use Rattle.path_laws.specs.declared.places.PathEnd.TheVariants as ends
use Rattle.path_laws.specs.Places.{at_node, at_gate, stand_of}
use Rattle.path_world.proofs.PartLemmas.{delivered-if}
use Rattle.path_world.proofs.parts.Parts.deliver.Goals as goal

pub returns-in-OldNode : goal.returns-in-OldNode
returns-in-OldNode c =
    delivered-if c.args.self.now c.hear_node.new.self c.args.k c.get.result.now (at_node ends.Old) c.hear_node.result c.requires.whole c.get.ensures
    (ap stand_of (sym c.across.ensures ∙ c.in-OldNode.is)) c.hear_node.ensures

pub returns-in-OldFace : goal.returns-in-OldFace
returns-in-OldFace c =
    delivered-if c.args.self.now c.hear_gate.new.self c.args.k c.get.result.now (at_gate faces.Old) c.hear_gate.result c.requires.whole c.get.ensures
    (ap stand_of (sym c.across.ensures ∙ c.in-OldFace.is)) c.hear_gate.ensures

pub returns-in-NewFace : goal.returns-in-NewFace
returns-in-NewFace c =
    delivered-if c.args.self.now c.hear_gate-in-NewFace.new.self c.args.k c.get.result.now (at_gate faces.New) c.hear_gate-in-NewFace.result c.requires.whole c.get.ensures
    (ap stand_of (sym c.across.ensures ∙ c.in-NewFace.is)) c.hear_gate-in-NewFace.ensures

pub returns-in-NewNode : goal.returns-in-NewNode
returns-in-NewNode c =
    delivered-if c.args.self.now c.hear_node-in-NewNode.new.self c.args.k c.get.result.now (at_node ends.New) c.hear_node-in-NewNode.result c.requires.whole c.get.ensures
    (ap stand_of (sym c.across.ensures ∙ c.in-NewNode.is)) c.hear_node-in-NewNode.ensures
