use Rattle.std.proofs.Common.{List, length, ap, subst, ◌∙◌, arith}
use Rattle.gate_cases.specs.declared.face.Face.{Face}
use Rattle.peer_cases.specs.Items.{item_seen, IsItem}
use Rattle.peer_cases.specs.Rows.{Item, items_of}
use Rattle.peer_gateway.specs.Steps.{passes_item}
use Rattle.peer_gateway.specs.Views.{moments_of}
use Rattle.peer_gateway.proofs.PassLemmas.{turns-begin, turns-next, turns-done}
use Rattle.peer_gateway.proofs.parts.Parts.pass.Goals as goal

pub passing-init : goal.passing-init
passing-init c = (
  turns-begin (λ s. passes_item s c.args.face (moments_of c.args.moments) c.args.session) c.args.self.now c.args.answer.now
      (items_of c.args.face c.args.block.now) c.new-items.result.left c.new-items.ensures.left c.requires.whole,
  c.new-items.ensures.face,
)

pub pass_item-requires-clause-item : goal.pass_item-requires-clause-item
pass_item-requires-clause-item c = subst (λ (f : Face). IsItem f c.in-Some.item) c.passing.invariant.1 c.in-Some.ensures.bundle

pub passing-smaller : goal.passing-smaller
passing-smaller c = omega (arith, ap (λ (items : List Item). length items) c.in-Some.ensures.gives)

pub passing-preserved : goal.passing-preserved
passing-preserved c = (
  turns-next (λ s. passes_item s c.args.face (moments_of c.args.moments) c.args.session) c.args.self.now c.passing.self c.pass_item.new.self c.args.answer.now
      c.passing.answer c.pass_item.new.answer (items_of c.args.face c.args.block.now) c.passing.items.left c.next_item.new.self.left (item_seen c.in-Some.item)
      c.in-Some.ensures.gives c.passing.invariant.0 c.in_ok-pass_item.ensures,
  c.in-Some.ensures.face ∙ c.passing.invariant.1,
)

pub returns : goal.returns
returns c =
    turns-done (λ s. passes_item s c.args.face (moments_of c.args.moments) c.args.session) c.args.self.now c.passing.self c.args.answer.now c.passing.answer
    (items_of c.args.face c.args.block.now) c.passing.items.left c.in_default.ensures.gives.0 c.passing.invariant.0
