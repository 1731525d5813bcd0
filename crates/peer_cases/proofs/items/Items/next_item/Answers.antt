use Rattle.std.proofs.Common.{ℕ, ◌-◌, ◌+◌, List, [], ◌∷◌, length, take, drop, Option, sym, ap, subst, ◌∙◌}
use Rattle.gate_cases.specs.declared.face.Face.{Face}
use Rattle.bundle_rows.specs.declared.next.End.{End}
use Rattle.bundle_rows.specs.declared.next.Next.{Next}
use Rattle.bundle_rows.specs.Standing.{IsBundle}
use Rattle.peer_cases.specs.Rows.{Item, a_bundle, an_end}
use Rattle.peer_cases.specs.Items.{ItemsValue, items_from_place, IsAhead}
use Rattle.peer_cases.proofs.ItemLemmas.{left-none, left-bundle, left-end, ahead-end, next-bundle}
use Rattle.peer_cases.proofs.items.Items.next_item.Goals as goal

pub invariant_of-self-in-End : goal.invariant_of-self-in-End
invariant_of-self-in-End c =
    let items = c.self.inside in
    ahead-end items.face items.block.now items.index items.at c.in-End.at c.in-End.cause
    (subst (λ (n : Next). IsAhead items.face items.block.now items.index items.at n) c.in-End.is c.self.invariant)

pub returns-in-Nothing-clause-gives : goal.returns-in-Nothing-clause-gives
returns-in-Nothing-clause-gives c =
    let items = c.self.inside in
    let ahead = subst (λ (n : Next). IsAhead items.face items.block.now items.index items.at n) c.in-Nothing.is c.self.invariant in
    let none = ap (λ (v : ItemsValue). v.left) (sym c.self.view_is)
    ∙ left-none items.several items.index items.face items.block.now items.at ahead.next_is in
    (none, none)

pub returns-in-Bundle-clause-gives : goal.returns-in-Bundle-clause-gives
returns-in-Bundle-clause-gives c =
    let items = c.self.inside in
    let to = c.in-Bundle.to in
    let ahead = subst (λ (n : Next). IsAhead items.face items.block.now items.index items.at n) c.in-Bundle.is c.self.invariant in
    let octets = take (to - items.at) (drop items.at items.block.now) in
    let rest = items_from_place items.several (items.index + 1) items.face items.block.now to in
    ap (λ (v : ItemsValue). v.left) (sym c.self.view_is)
    ∙ (left-bundle items.several items.index items.face items.block.now items.at to ahead
    ∙ ap (λ (index : Option ℕ). a_bundle index octets ∷ rest) (sym c.index_if-index.ensures))

pub returns-in-Bundle-clause-bundle : goal.returns-in-Bundle-clause-bundle
returns-in-Bundle-clause-bundle c =
    let items = c.self.inside in
    let to = c.in-Bundle.to in
    let ahead = subst (λ (n : Next). IsAhead items.face items.block.now items.index items.at n) c.in-Bundle.is c.self.invariant in
    subst (λ (f : Face). IsBundle f (take (to - items.at) (drop items.at items.block.now))) (ap (λ (v : ItemsValue). v.face) c.self.view_is)
    (next-bundle items.face items.block.now items.index items.at to ahead)

pub returns-in-End-clause-gives : goal.returns-in-End-clause-gives
returns-in-End-clause-gives c =
    let items = c.self.inside in
    let end : End = record { at = c.in-End.at; cause = c.in-End.cause } in
    let ahead = subst (λ (n : Next). IsAhead items.face items.block.now items.index items.at n) c.in-End.is c.self.invariant in
    let after = ahead-end items.face items.block.now items.index items.at c.in-End.at c.in-End.cause ahead in
    let none = left-none items.several items.index items.face items.block.now (length items.block.now) after.next_is in
    ap (λ (v : ItemsValue). v.left) (sym c.self.view_is)
    ∙ (left-end items.several items.index items.face items.block.now items.at c.in-End.at c.in-End.cause ahead
    ∙ (ap (λ (index : Option ℕ). an_end index end ∷ []) (sym c.index_if-index.ensures)
    ∙ ap (λ (rest : List Item). an_end c.index_if-index.result end ∷ rest) (sym none)))
