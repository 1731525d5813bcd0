use Rattle.std.proofs.Common.{◌≤◌, ℕ, ◌+◌, ◌-◌, List, ◌++◌, take, length, ◌∙◌, ap, sym, arith}
use Rattle.std.proofs.lemmas.Slice.{take-put_mid}
use Rattle.console.proofs.given.Head.fill.Goals as goal

pub returns : goal.returns
returns c =
    let size : ℕ = c.self.inside.size in
    let after = c.copy_from_slice.ensures.after in
    let inside : size ≤ length c.self.inside.octets = omega (arith, c.self.told, c.self.invariant) in
    take-put_mid size (size + length c.args.front.now - size) c.self.inside.octets c.copy_from_slice.new.self
    (size + length c.args.front.now) (ap (λ (ys : List ℕ). size + length ys) (sym after)) inside
    ∙ ap (λ (ys : List ℕ). take size c.self.inside.octets ++ ys) after
    ∙ ap (λ (xs : List ℕ). xs ++ c.args.front.now) c.self.view_is
