-- The things in a block, as they are given one after the other.

use Rattle.std.proofs.Common.{◌≡◌, ℕ, zero, suc, ◌+◌, ◌-◌, ◌<◌, Bool, not, List, [], ◌∷◌, length, take, drop, refl, sym, ap, subst, ◌∙◌, arith, inl, inr}
use Rattle.std.proofs.lemmas.Bool.{cases_eq, eq-eqb, ne_eqb, lt-ltb}
use Rattle.wire_fields.proofs.TextLemmas.{octets-drop}
use Rattle.gate_cases.specs.declared.cause.BadCause.{BadCause}
use Rattle.gate_cases.specs.declared.face.Face.{Face}
use Rattle.bundle_rows.specs.declared.next.Next.{Next}
use Rattle.bundle_rows.specs.declared.next.Next.TheVariants as nexts
use Rattle.bundle_rows.specs.Rows.{Row, Front, bundle, wrong, no_row, front_of, next_from, next_of, with_bundle, row_with, row_from, row_of, IsInBlock}
use Rattle.bundle_rows.specs.Standing.{IsBundle}
use Rattle.bundle_rows.proofs.FrontLemmas.{FrontIs, front-is}
use Rattle.bundle_rows.proofs.RowLemmas.{next-none, next-some}
use Rattle.peer_cases.specs.Rows.{a_bundle, an_end, ends_in, is_several, index_if, items_from, items_of}
use Rattle.peer_cases.specs.Items.{items_in_row, items_from_place, IsAhead, goes_on}

-- ---- rows by what stands next

row-next : (fuel : ℕ) (face : Face) (block : List ℕ) (at : ℕ) (next : Next) → 0 < fuel → next ≡ next_of face block at
    → row_from fuel face block at ≡ row_with at next (row_from (fuel - 1) face block)
unfolding row_from
row-next zero face block at next some is = absurd (omega (arith, some))
row-next (suc fuel) face block at next some is =
    let less : suc fuel - 1 ≡ fuel = omega arith in
    rw less (ap (λ (n : Next). row_with at n (row_from fuel face block)) (sym is))

row-none : (fuel : ℕ) (face : Face) (block : List ℕ) (at : ℕ) → nexts.Nothing ≡ next_of face block at → row_from fuel face block at ≡ no_row
unfolding row_from
row-none zero face block at is = refl
row-none (suc fuel) face block at is = ap (λ (n : Next). row_with at n (row_from fuel face block)) (sym is)

-- ---- what is left

-- nothing
pub left-none : (several : Bool) (index : ℕ) (face : Face) (block : List ℕ) (at : ℕ) → nexts.Nothing ≡ next_of face block at
    → items_from_place several index face block at ≡ []
unfolding items_from_place items_from
left-none several index face block at is =
    ap (items_in_row several index block) (row-none (length block + 1 - index) face block at is)

-- a bundle, and what is left after it
pub left-bundle : (several : Bool) (index : ℕ) (face : Face) (block : List ℕ) (at to : ℕ) → IsAhead face block index at (nexts.Bundle to)
    → items_from_place several index face block at
    ≡ a_bundle (index_if several index) (take (to - at) (drop at block)) ∷ items_from_place several (index + 1) face block to
unfolding items_from_place items_from
left-bundle several index face block at to ahead =
    let fuel : 0 < length block + 1 - index = omega (arith, ahead.within.0, ahead.within.1, ahead.few) in
    let less : length block + 1 - index - 1 ≡ length block + 1 - (index + 1) = omega arith in
    ap (items_in_row several index block)
    (row-next (length block + 1 - index) face block at (nexts.Bundle to) fuel ahead.next_is
    ∙ ap (λ (k : ℕ). row_with at (nexts.Bundle to) (row_from k face block)) less)

-- the end
pub left-end : (several : Bool) (index : ℕ) (face : Face) (block : List ℕ) (at place : ℕ) (cause : BadCause)
    → IsAhead face block index at (nexts.End place cause)
    → items_from_place several index face block at ≡ an_end (index_if several index) (record { at = place; cause = cause }) ∷ []
unfolding items_from_place items_from
left-end several index face block at place cause ahead =
    let fuel : 0 < length block + 1 - index = omega (arith, ahead.within.0, ahead.few) in
    ap (items_in_row several index block) (row-next (length block + 1 - index) face block at (nexts.End place cause) fuel ahead.next_is)

-- ---- the places

pub ahead-end : (face : Face) (block : List ℕ) (index at place : ℕ) (cause : BadCause) → IsAhead face block index at (nexts.End place cause)
    → IsAhead face block index (length block) nexts.Nothing
ahead-end face block index at place cause ahead = record {
  fits = ahead.fits;
  next_is = sym (next-none face block (length block) refl);
  within = refl;
  some = ahead.some;
  few = omega (arith, ahead.few, ahead.within.0);
}

-- the octets of a bundle that stands next
pub next-bundle : (face : Face) (block : List ℕ) (index at to : ℕ) → IsAhead face block index at (nexts.Bundle to)
    → IsBundle face (take (to - at) (drop at block))
next-bundle face block index at to ahead =
    by (front_of face (drop at block)) (front-is face (drop at block) (octets-drop at block ahead.fits))
    (ahead.next_is ∙ next-some face block at (omega (arith, ahead.within.0, ahead.within.1)))
  where
    to-is : (n : ℕ) → nexts.Bundle to ≡ nexts.Bundle (at + n) → to ≡ at + n
    to-is n same = cc

    by : (front : Front) → FrontIs face (drop at block) front → nexts.Bundle to ≡ next_from at front
        → IsBundle face (take (to - at) (drop at block))
    by (bundle n) (some, there, is) same =
        let size : n ≡ to - at = omega (arith, to-is n same) in
        subst (λ (k : ℕ). IsBundle face (take k (drop at block))) size is
    by (wrong place cause) is same = absurd (cc)

-- ---- all of them

-- how many things a row has
abbrev things : Row → ℕ
things row = length row.bundles + ends_in row.end

-- octets are left, so something stands there
one-more : (fuel : ℕ) (face : Face) (block : List ℕ) (at : ℕ) → 0 < fuel → at < length block → 0 < things (row_from fuel face block at)
one-more fuel face block at some left =
    subst (λ (row : Row). 0 < things row)
    (sym (row-next fuel face block at (next_from at (front_of face (drop at block))) some (sym (next-some face block at left))))
    (by (front_of face (drop at block)))
  where
    by : (front : Front) → 0 < things (row_with at (next_from at front) (row_from (fuel - 1) face block))
    by (bundle n) = omega arith
    by (wrong place cause) = omega arith

-- whether more than one thing stands there
pub several-is : (face : Face) (block : List ℕ) (next : Next) → next ≡ next_of face block 0 → IsInBlock (length block) 0 next
    → goes_on (length block) next ≡ is_several (row_of face block)
several-is face block nexts.Nothing is within = sym (ap is_several (row-none (length block) face block 0 is))
several-is face block (nexts.End place cause) is within =
    sym (ap is_several (row-next (length block) face block 0 (nexts.End place cause) within.0 is))
several-is face block (nexts.Bundle to) is within =
    sym (ap is_several (row-next (length block) face block 0 (nexts.Bundle to) (omega (arith, within.0, within.1)) is)
    ∙ elim (cases_eq to (length block)) [
      | inl all ↦
          ap (λ (row : Row). is_several (with_bundle (record { from = 0; to = to }) row))
          (row-none (length block - 1) face block to (sym (next-none face block to all)))
          ∙ sym (ap not (eq-eqb to (length block) all))
      | inr part ↦
          lt-ltb 1 (suc (length (row_from (length block - 1) face block to).bundles) + ends_in (row_from (length block - 1) face block to).end)
          (omega (arith, one-more (length block - 1) face block to (omega (arith, part, within.0, within.1)) (omega (arith, part, within.1))))
          ∙ sym (ap not (ne_eqb to (length block) part))
    ])

pub items-start : (several : Bool) (face : Face) (block : List ℕ) → several ≡ is_several (row_of face block)
    → items_from_place several 1 face block 0 ≡ items_of face block
unfolding items_from_place items_of
items-start several face block is =
    let all : length block + 1 - 1 ≡ length block = omega arith in
    ap (λ (k : ℕ). items_in_row several 1 block (row_from k face block 0)) all
    ∙ ap (λ (t : Bool). items_in_row t 1 block (row_of face block)) is
