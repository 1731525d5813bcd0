-- Walks over the runs, over plain variables.

use Rattle.std.proofs.Common.{◌≡◌, ℕ, zero, suc, ◌+◌, ◌<◌, ◌≤◌, List, [], ◌∷◌, ◌++◌, length, drop, get_or, Option, Some, refl, sym, ap, ◌∙◌, arith}
use Rattle.std.proofs.lemmas.List.{drop_all}
use Rattle.std.proofs.lemmas.Option.{slice_get-get_or}
use Rattle.std.specs.List.{slice_get}
use Rattle.spans.specs.declared.range.Run.{Run}
use Rattle.spans.specs.Chunks.{joined, from_there}
use Rattle.spans.proofs.Growing.{drop-read}

pub from_there-first : (chunks : List (List Run)) → from_there chunks 0 0 ≡ joined chunks
from_there-first [] = refl
from_there-first (k ∷ ks) = refl

-- ---- one run after another

pub from_there-next_chunk : (chunks ks : List (List Run)) (k : List Run) (at : ℕ) (r : Run) → chunks ≡ k ∷ ks → at < length k → length k ≤ at + 1 → r ≡ get_or k at r → from_there chunks 0 at ≡ r ∷ from_there ks 0 0
from_there-next_chunk chunks ks k at r is below last read =
    ap (λ (xs : List (List Run)). from_there xs 0 at) is
    ∙ (ap (λ xs. xs ++ joined ks) (drop-read k at r below read)
    ∙ (ap (λ xs. r ∷ (xs ++ joined ks)) (drop_all (at + 1) k last)
    ∙ ap (λ xs. r ∷ xs) (sym (from_there-first ks))))

-- ---- the run at an index

slice_get-left : (xs ys : List Run) (i : ℕ) → i < length xs → slice_get (xs ++ ys) i ≡ slice_get xs i
slice_get-left [] ys i below = absurd (omega arith)
slice_get-left (x ∷ xs) ys zero below = refl
slice_get-left (x ∷ xs) ys (suc i) below = slice_get-left xs ys i (omega arith)

slice_get-right : (xs ys : List Run) (i j : ℕ) → length xs + j ≡ i → slice_get (xs ++ ys) i ≡ slice_get ys j
slice_get-right [] ys i j is = let e : i ≡ j = omega arith in ap (slice_get ys) e
slice_get-right (x ∷ xs) ys zero j is = absurd (omega arith)
slice_get-right (x ∷ xs) ys (suc i) j is = slice_get-right xs ys i j (omega arith)

-- the run at i stands at `left` after the first n chunks
pub record Walking (chunks : List (List Run)) (i n left : ℕ) : Type 0 where
  pub same : slice_get (joined chunks) i ≡ slice_get (joined (drop n chunks)) left

pub Walking-more : (chunks : List (List Run)) (i n left next : ℕ) (k : List Run) → Walking chunks i n left → n < length chunks → k ≡ get_or chunks n k → length k ≤ left → next + length k ≡ left
    → Walking chunks i (n + 1) next
Walking-more chunks i n left next k h below read past is = record {
  same = h.same ∙ (ap (λ xs. slice_get (joined xs) left) (drop-read chunks n k below read) ∙ slice_get-right k (joined (drop (n + 1) chunks)) left next (omega arith));
}

pub Walking-found : (chunks : List (List Run)) (i n left : ℕ) (k : List Run) (r : Run) → Walking chunks i n left → n < length chunks → k ≡ get_or chunks n k → left < length k → r ≡ get_or k left r
    → Some r ≡ slice_get (joined chunks) i
Walking-found chunks i n left k r h below read inside at =
    sym (h.same ∙ (ap (λ xs. slice_get (joined xs) left) (drop-read chunks n k below read)
    ∙ (slice_get-left k (joined (drop (n + 1) chunks)) left inside
    ∙ (slice_get-get_or k left r inside ∙ ap (λ x. let y : Option Run = Some x in y) (sym at)))))

-- ---- how many runs there are

pub record Totalling (chunks : List (List Run)) (n total : ℕ) : Type 0 where
  pub rest : total + length (joined (drop n chunks)) ≡ length (joined chunks)
