-- Octets whose places all have one, as covered places.

use Rattle.std.proofs.Common.{◌≡◌, ℕ, ◌+◌, ◌<◌, ◌≤◌, true, List, [], ◌∷◌, length, Bool, Option, is_some, refl, sym, ◌∙◌, arith, ⊎_elim}
use Rattle.std.proofs.lemmas.Bool.{cases_lt, and_parts}
use Rattle.spans.specs.Places.{all_covered}
use Rattle.spans.proofs.Covering.{same_truth}
use Rattle.spans.proofs.Places.{all_covered-true, all_covered-from}
use Rattle.cells.specs.Cells.{cell}
use Rattle.cells.specs.Covers.{Covers}
use Rattle.fragments.specs.Cells.{has_all}

pub has-each : (cells : List (Option ℕ)) (offset : ℕ) (body : List ℕ) → has_all cells offset body ≡ true
    → (k : ℕ) → offset ≤ k → k < offset + length body → is_some (cell cells k) ≡ true
unfolding has_all
has-each cells offset [] all k from below = absurd (omega (arith, from, below))
has-each cells offset (o ∷ body) all k from below =
    let parts = and_parts (is_some (cell cells offset)) (has_all cells (offset + 1) body) all in
    ⊎_elim
    (λ here. let same : k ≡ offset = omega (arith, from, here) in rw same parts.0)
    (λ later. has-each cells (offset + 1) body parts.1 k later (omega (arith, below)))
    (cases_lt k (offset + 1))

pub has-from : (cells : List (Option ℕ)) (offset : ℕ) (body : List ℕ)
    → ((k : ℕ) → offset ≤ k → k < offset + length body → is_some (cell cells k) ≡ true) → has_all cells offset body ≡ true
unfolding has_all
has-from cells offset [] each = refl
has-from cells offset (o ∷ body) each =
    rw (each offset (omega arith) (omega arith), has-from cells (offset + 1) body (λ k from below. each k (omega (arith, from)) (omega (arith, below)))) refl

pub has_all-same : {most : ℕ} (places : List Bool) (cells : List (Option ℕ)) (offset : ℕ) (body : List ℕ) → Covers most places cells
    → offset + length body ≤ most → all_covered offset (offset + length body) places ≡ has_all cells offset body
has_all-same places cells offset body covers fits =
    let stop = offset + length body in
    same_truth (all_covered offset stop places) (has_all cells offset body)
    (λ all. has-from cells offset body (λ k from below. sym (covers.each k) ∙ all_covered-true offset stop places (omega (arith, covers.limit, fits)) all k from below))
    (λ all. all_covered-from offset stop places (omega (arith, covers.limit, fits)) (λ k from below. covers.each k ∙ has-each cells offset body all k from below))
