-- The filled places of cells, as covered places.

use Rattle.std.proofs.Common.{◌≡◌, ℕ, ◌+◌, ◌<◌, ◌≤◌, Bool, true, false, ◌&&◌, ◌||◌, ◌==◌, List, [], length, get_or, replicate, Option, None, Some, is_some, refl, sym, ◌∙◌, ap, arith, ⊎_elim, if◌then◌else◌}
use Rattle.std.proofs.lemmas.List.{get_or-replicate, get_or_past, length-replicate}
use Rattle.std.proofs.lemmas.Bool.{cases_lt}
use Rattle.std.specs.Option.{option_eq}
use Rattle.spans.specs.Places.{is_covered, is_in, uncovered, with_covered, all_covered}
use Rattle.spans.proofs.Covering.{same_truth}
use Rattle.spans.proofs.Places.{is_covered-with_covered, length-with_covered, length-uncovered, all_covered-true, all_covered-from}
use Rattle.cells.specs.Cells.{cell, octet_in, or_else, filled, all_octets, whole_part}
use Rattle.cells.specs.Covers.{Covers}
use Rattle.cells.specs.Laid.{StandsAfter}
use Rattle.cells.proofs.CellLemmas.{cell-filled, length-filled, all_octets-only, all_octets-some, all_octets-cell, all_octets-length}

-- ---- no octets, and some more

is_covered-uncovered : (limit k : ℕ) → is_covered (uncovered limit) k ≡ false
unfolding uncovered
is_covered-uncovered limit k = ⊎_elim
    (λ low. get_or-replicate limit k false false low)
    (λ past. get_or_past (replicate limit false) k false (omega (arith, length-replicate {A = Bool}, past)))
    (cases_lt k limit)

pub covers-none : (places : List Bool) (limit : ℕ) → places ≡ uncovered limit → Covers limit places []
covers-none places limit is = record {
  limit = ap length is ∙ length-uncovered limit;
  within = omega arith;
  each = λ k. rw is (is_covered-uncovered limit k);
}

some-octet_in : (offset : ℕ) (body : List ℕ) (k : ℕ) → is_some (octet_in offset body k) ≡ is_in offset (offset + length body) k
some-octet_in offset body k = by_test (is_in offset (offset + length body) k) refl
  where
    by_test : (t : Bool) → is_in offset (offset + length body) k ≡ t → is_some (octet_in offset body k) ≡ t
    by_test true inside = rw inside refl
    by_test false outside = rw outside refl

some-or_else : (a b : Option ℕ) → is_some (or_else a b) ≡ (is_some a || is_some b)
some-or_else None b = refl
some-or_else (Some x) b = refl

pub covers-more : {most : ℕ} (places now : List Bool) (cells : List (Option ℕ)) (offset : ℕ) (body : List ℕ)
    → Covers most places cells → offset + length body ≤ most
    → now ≡ with_covered offset (offset + length body) places
    → Covers most now (filled cells offset body)
covers-more places now cells offset body so_far fits is = record {
  limit = ap length is ∙ (length-with_covered offset (offset + length body) places (omega arith) (omega (arith, so_far.limit, fits)) ∙ so_far.limit);
  within = omega (arith, length-filled cells offset body, so_far.within, fits);
  each = λ k.
      rw is (is_covered-with_covered offset (offset + length body) places k (omega arith) (omega (arith, so_far.limit, fits))
      ∙ (ap (λ t. t || is_in offset (offset + length body) k) (so_far.each k)
      ∙ (ap (λ t. is_some (cell cells k) || t) (sym (some-octet_in offset body k))
      ∙ (sym (some-or_else (cell cells k) (octet_in offset body k))
      ∙ sym (ap is_some (cell-filled cells offset body k))))));
}

-- ---- the whole part

-- every octet of a whole part came
cells-some : (cells : List (Option ℕ)) → is_some (all_octets cells) ≡ true → (k : ℕ) → k < length cells → is_some (cell cells k) ≡ true
cells-some cells some k low = by_octets (all_octets cells) refl some
  where
    by_octets : (o : Option (List ℕ)) → all_octets cells ≡ o → is_some o ≡ true → is_some (cell cells k) ≡ true
    by_octets None is none = absurd (cc)
    by_octets (Some body) is found = ap is_some (all_octets-cell cells body is k (omega (arith, all_octets-length cells body is)))

-- the code's test is that of the cells
pub is_whole-same : {most : ℕ} (places : List Bool) (cells : List (Option ℕ)) (reach : ℕ) (known : Option ℕ)
    → Covers most places cells → reach ≡ length cells
    → (option_eq (λ a b. a == b) known (Some reach) && all_covered 0 reach places) ≡ is_some (whole_part cells known)
is_whole-same places cells reach None covers size = refl
is_whole-same places cells reach (Some n) covers size = rw size (by_test (n == length cells))
  where
    by_test : (t : Bool) → (t && all_covered 0 (length cells) places) ≡ is_some (if t then all_octets cells else None)
    by_test false = refl
    by_test true = same_truth (all_covered 0 (length cells) places) (is_some (all_octets cells))
        (λ all. all_octets-some cells (λ k low. sym (covers.each k) ∙ all_covered-true 0 (length cells) places (omega (arith, covers.limit, covers.within)) all k (omega arith) low))
        (λ some. all_covered-from 0 (length cells) places (omega (arith, covers.limit, covers.within)) (λ k low high. covers.each k ∙ cells-some cells some k high))

stands-whole : (body : List ℕ) (cells : List (Option ℕ)) → length body ≡ length cells → StandsAfter [] body cells
    → ((k : ℕ) → k < length cells → is_some (cell cells k) ≡ true)
    → all_octets cells ≡ Some body
stands-whole body cells size stands whole =
    all_octets-only cells body (sym size)
    (λ k low. found k (cell cells k) refl (whole k (omega (arith, size))) (stands.each k low))
  where
    found : (k : ℕ) (c : Option ℕ) → cell cells k ≡ c → is_some c ≡ true → Some (get_or body k 0) ≡ or_else (cell cells k) (Some 0)
        → cell cells k ≡ Some (get_or body k 0)
    found k None is none after = absurd (cc)
    found k (Some octet) is some after = sym (after ∙ rw is refl)

pub whole-body : (body : List ℕ) (cells : List (Option ℕ)) (known : Option ℕ) → length body ≡ length cells → StandsAfter [] body cells
    → is_some (whole_part cells known) ≡ true → Some body ≡ whole_part cells known
whole-body body cells None size stands some = absurd (cc)
whole-body body cells (Some n) size stands some = by_test (n == length cells) some
  where
    by_test : (t : Bool) → is_some (if t then all_octets cells else None) ≡ true → Some body ≡ (if t then all_octets cells else None)
    by_test false none = absurd (cc)
    by_test true found = sym (stands-whole body cells size stands (λ k low. cells-some cells found k low))

pub none_of : {X : Type 0} (o : Option X) → is_some o ≡ false → None ≡ o
none_of None none = refl
none_of (Some x) none = absurd (cc)
