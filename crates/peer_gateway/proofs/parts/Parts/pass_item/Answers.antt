use Rattle.std.proofs.Common.{OnOk, sym, subst}
use Rattle.peer_cases.specs.declared.items.Item.{Item as Lent}
use Rattle.peer_cases.specs.Items.{item_seen}
use Rattle.peer_gateway.specs.Steps.{passes_item}
use Rattle.peer_gateway.specs.Views.{moments_of}
use Rattle.peer_gateway.specs.Ties.{Did, gate_of, setup_in}
use Rattle.peer_gateway.proofs.PassLemmas.{item-so}
use Rattle.peer_gateway.proofs.parts.Parts.pass_item.Goals as goal

pub returns-in_ok-tell-in-Bundle : goal.returns-in_ok-tell-in-Bundle
returns-in_ok-tell-in-Bundle c =
    let m = moments_of c.args.moments in
    subst (λ (item : Lent). OnOk c.pass_bundle.result (Did c.args.self.now c.pass_bundle.new.self c.args.answer.now c.pass_bundle.new.answer
    (passes_item (setup_in c.args.self.now) c.args.face m c.args.session (item_seen item) (gate_of c.args.self.now)))) (sym c.in-Bundle.is)
    (item-so c.args.self.now c.pass_bundle.new.self c.args.answer.now c.tell.new.self c.pass_bundle.new.answer c.args.face m c.in-Bundle.index c.args.session
    c.in-Bundle.octets.now c.in_ok-subject-in-Bundle.subject c.pass_bundle.result c.requires.whole c.in_ok-subject-in-Bundle.ensures.exact
    c.in_ok-tell-in-Bundle.ensures c.pass_bundle.ensures)
