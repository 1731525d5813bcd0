-- A row, counted as it is read.

use Rattle.std.proofs.Common.{◌≡◌, ℕ, zero, suc, ◌+◌, ◌-◌, ◌<◌, ◌≤◌, List, length, Some, None, refl, sym, ap, ◌∙◌, arith}
use Rattle.gate_cases.specs.declared.cause.BadCause.{BadCause}
use Rattle.gate_cases.specs.declared.face.Face.{Face}
use Rattle.bundle_rows.specs.declared.next.Next.{Next}
use Rattle.bundle_rows.specs.declared.next.Next.TheVariants as nexts
use Rattle.bundle_rows.specs.Rows.{next_of, Row, no_row, with_bundle, row_with, row_from, row_of}

-- so many bundles end before a place, and the rest of the row begins there
pub record Counting (face : Face) (block : List ℕ) (bundles place : ℕ) : Type 0 where
  pub few : bundles ≤ place
  pub within : place ≤ length block
  pub size : length (row_of face block).bundles ≡ bundles + length (row_from (length block - bundles) face block place).bundles
  pub ends : (row_of face block).end ≡ (row_from (length block - bundles) face block place).end

pub counting-start : (face : Face) (block : List ℕ) → Counting face block 0 0
counting-start face block = record {
  few = omega arith;
  within = omega arith;
  size =
      let all : length block - 0 ≡ length block = omega arith in
      rw all (omega arith);
  ends =
      let all : length block - 0 ≡ length block = omega arith in
      rw all refl;
}

-- a row of which something stands next
row-next : (fuel : ℕ) (face : Face) (block : List ℕ) (at : ℕ) (next : Next) → 0 < fuel → next_of face block at ≡ next
    → row_from fuel face block at ≡ row_with at next (row_from (fuel - 1) face block)
unfolding row_from
row-next zero face block at next some is = absurd (omega arith)
row-next (suc fuel) face block at next some is =
    let less : suc fuel - 1 ≡ fuel = omega arith in
    rw less (ap (λ (n : Next). row_with at n (row_from fuel face block)) is)

pub counting-more : (face : Face) (block : List ℕ) (bundles place to : ℕ) → Counting face block bundles place
    → next_of face block place ≡ nexts.Bundle to → place < to → to ≤ length block → Counting face block (bundles + 1) to
counting-more face block bundles place to so_far next some there =
    let row = row-next (length block - bundles) face block place (nexts.Bundle to) (omega (arith, so_far.few)) next in
    let less : (length block - bundles) - 1 ≡ length block - (bundles + 1) = omega arith in
    let rest = ap (λ (k : ℕ). with_bundle (record { from = place; to = to }) (row_from k face block to)) less in
    record {
      few = omega (arith, so_far.few);
      within = there;
      size = omega (arith, so_far.size, ap (λ (r : Row). length r.bundles) (row ∙ rest));
      ends = so_far.ends ∙ ap (λ (r : Row). r.end) (row ∙ rest);
    }

-- where nothing stands next there is no more of it
row-none : (fuel : ℕ) (face : Face) (block : List ℕ) (at : ℕ) → next_of face block at ≡ nexts.Nothing → row_from fuel face block at ≡ no_row
unfolding row_from
row-none zero face block at is = refl
row-none (suc fuel) face block at is = ap (λ (n : Next). row_with at n (row_from fuel face block)) is

pub counting-none : (face : Face) (block : List ℕ) (bundles place : ℕ) → Counting face block bundles place
    → next_of face block place ≡ nexts.Nothing → (bundles ≡ length (row_of face block).bundles) × (None ≡ (row_of face block).end)
counting-none face block bundles place so_far next =
    let row = row-none (length block - bundles) face block place next in
    (omega (arith, so_far.size, ap (λ (r : Row). length r.bundles) row), sym (so_far.ends ∙ ap (λ (r : Row). r.end) row))

pub counting-end : (face : Face) (block : List ℕ) (bundles place at : ℕ) (cause : BadCause) → Counting face block bundles place
    → next_of face block place ≡ nexts.End at cause → place < length block
    → (bundles ≡ length (row_of face block).bundles) × (Some (record { at = at; cause = cause }) ≡ (row_of face block).end)
counting-end face block bundles place at cause so_far next left =
    let row = row-next (length block - bundles) face block place (nexts.End at cause) (omega (arith, so_far.few)) next in
    (omega (arith, so_far.size, ap (λ (r : Row). length r.bundles) row), sym (so_far.ends ∙ ap (λ (r : Row). r.end) row))
