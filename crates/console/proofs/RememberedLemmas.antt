-- Fronts of octets to which more come.
use Rattle.std.proofs.Common.{◌≡◌, ℕ, ◌-◌, ◌≤◌, ◌+◌, List, ◌++◌, length, take, ap, ◌∙◌, arith}
use Rattle.std.proofs.Math.Seq.{take-append-add}

-- the front of all is what came, and the front of what comes, as far as there is room
pub take-goes_on : (most : ℕ) (came more : List ℕ) → length came ≤ most
    → take most (came ++ more) ≡ came ++ take (most - length came) more
take-goes_on most came more short =
    let same : most ≡ length came + (most - length came) = omega (arith, short) in
    ap (λ (n : ℕ). take n (came ++ more)) same ∙ take-append-add came more (most - length came)
