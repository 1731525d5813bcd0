use Rattle.std.proofs.Common.{◌≡◌, ◌≤◌, ℕ, ◌-◌, List, ◌++◌, take, length, ◌∙◌, ap, sym, arith}
use Rattle.std.proofs.lemmas.List.{take_min, length-take-le}
use Rattle.console.proofs.RememberedLemmas.{take-goes_on}
use Rattle.console.proofs.given.Head.add.Goals as goal

pub returns : goal.returns
returns c =
    let size : ℕ = c.self.inside.size in
    let came : List ℕ = c.args.self.now in
    let more : List ℕ = c.args.more.now in
    let inside : size ≤ length c.self.inside.octets = omega (arith, c.self.told, c.self.invariant) in
    let known : size ≡ length came =
    sym (length-take-le size c.self.inside.octets inside) ∙ ap (λ (xs : List ℕ). length xs) c.self.view_is in
    let short : length came ≤ 64 = omega (arith, known, c.self.invariant) in
    c.fill.ensures
    ∙ ap (λ (n : ℕ). came ++ take n more) c.min-n.ensures
    ∙ ap (λ (xs : List ℕ). came ++ xs) (take_min (64 - size) more)
    ∙ ap (λ (n : ℕ). came ++ take (64 - n) more) known
    ∙ sym (take-goes_on 64 came more short)
