-- Octets on pages.

use Rattle.std.proofs.Common.{◌≡◌, ℕ, suc, ◌+◌, ◌-◌, ◌<◌, ◌≤◌, Bool, true, false, ◌&&◌, ◌==◌, List, [], ◌∷◌, ◌++◌, length, replicate, Option, None, Some, refl, arith, ⊎_elim, inl, inr, ◌⊎◌, slice_set, if◌then◌else◌}
use Rattle.std.proofs.lemmas.List.{get_or-replicate, get_or_past, length-replicate, get_or-set_same, get_or-set_other}
use Rattle.std.proofs.lemmas.Bool.{cases_lt, eq-eqb}
use Rattle.std.proofs.lemmas.Bool.Decides.{nat_tests}
use Rattle.ltp_session.specs.Cells.{cell, octet_in}
use Rattle.ltp_session.specs.RedPart.{or_else}
use Rattle.cells.proofs.CellLemmas.{octet_in-inside, octet_in-before_first, octet_in-past, octet_in-none}
use Rattle.ltp_audit.specs.Recorded.{agrees, has_no_other}

pub cell-empty : (n k : ℕ) → cell (replicate n None) k ≡ None
cell-empty n k = ⊎_elim
    (λ low. get_or-replicate n k None None low)
    (λ past. get_or_past (replicate n None) k None (omega (arith, length-replicate {A = Option ℕ}, past)))
    (cases_lt k n)

-- the octets from a place on, the first of them apart
pub octet_in-cons : (at octet : ℕ) (body : List ℕ) (k : ℕ)
    → octet_in at (octet ∷ body) k ≡ (if k == at then Some octet else octet_in (at + 1) body k)
octet_in-cons at octet body k = by_place (cases_lt k at) (cases_lt at k) where
  later : at < k → (k < at + 1 + length body) ⊎ (at + 1 + length body ≤ k) → octet_in at (octet ∷ body) k ≡ octet_in (at + 1) body k
  later after (inl low) =
      let place : k - at ≡ suc (k - (at + 1)) = omega arith in
      rw (octet_in-inside at (octet ∷ body) k (omega arith) (omega arith), octet_in-inside (at + 1) body k (omega arith) low, place) refl
  later after (inr past) =
      rw (octet_in-past at (octet ∷ body) k (omega arith), octet_in-past (at + 1) body k past) refl

  by_place : (k < at) ⊎ (at ≤ k) → (at < k) ⊎ (k ≤ at)
      → octet_in at (octet ∷ body) k ≡ (if k == at then Some octet else octet_in (at + 1) body k)
  by_place (inl below) any =
      let apart : (k == at) ≡ false = grind (arith, nat_tests) in
      let early : k < at + 1 = omega arith in
      rw (octet_in-before_first at (octet ∷ body) k below, apart, octet_in-before_first (at + 1) body k early) refl
  by_place (inr from) (inl after) =
      let apart : (k == at) ≡ false = grind (arith, nat_tests) in
      rw apart (later after (cases_lt k (at + 1 + length body)))
  by_place (inr from) (inr to) =
      let same : k ≡ at = omega arith in
      let zero_place : k - at ≡ 0 = omega arith in
      let low : k < at + length (octet ∷ body) = omega arith in
      rw (octet_in-inside at (octet ∷ body) k from low, eq-eqb k at same, zero_place) refl

-- the octets of two parts, one after the other
pub octet_in-parts : (at : ℕ) (part rest : List ℕ) (k : ℕ)
    → octet_in at (part ++ rest) k ≡ or_else (octet_in at part k) (octet_in (at + length part) rest k)
octet_in-parts at [] rest k =
    let start : at + 0 ≡ at = omega arith in
    rw (octet_in-none at k, start) refl
octet_in-parts at (octet ∷ part) rest k =
    let rest_is = octet_in-parts (at + 1) part rest k in
    rw (octet_in-cons at octet (part ++ rest) k, octet_in-cons at octet part k) (by_test rest_is (k == at)) where
      by_test : octet_in (at + 1) (part ++ rest) k ≡ or_else (octet_in (at + 1) part k) (octet_in (at + 1 + length part) rest k)
          → (t : Bool)
          → (if t then Some octet else octet_in (at + 1) (part ++ rest) k)
          ≡ or_else (if t then Some octet else octet_in (at + 1) part k) (octet_in (at + suc (length part)) rest k)
      by_test rest_is true = refl
      by_test rest_is false =
          let shift : at + suc (length part) ≡ at + 1 + length part = omega arith in
          rw (shift, rest_is) refl

pub agrees-parts : (held : ℕ → Option ℕ) (at : ℕ) (part rest : List ℕ)
    → agrees held at (part ++ rest) ≡ (agrees held at part && agrees held (at + length part) rest)
agrees-parts held at [] rest = let start : at + 0 ≡ at = omega arith in rw start refl
agrees-parts held at (octet ∷ part) rest =
    let shift : at + suc (length part) ≡ at + 1 + length part = omega arith in
    let rest_is = agrees-parts held (at + 1) part rest in
    rw (shift, rest_is) (and-right (has_no_other (held at) octet)) where
      and-right : (t : Bool) → (t && (agrees held (at + 1) part && agrees held (at + 1 + length part) rest))
          ≡ ((t && agrees held (at + 1) part) && agrees held (at + 1 + length part) rest)
      and-right true = refl
      and-right false = refl

pub or_else-parts : {X : Type 0} (a b c : Option X) → or_else (or_else a b) c ≡ or_else a (or_else b c)
or_else-parts None b c = refl
or_else-parts (Some x) b c = refl

-- ---- one octet more on a page

pub cell-set : (cells : List (Option ℕ)) (at : ℕ) (now : Option ℕ) (k : ℕ) → at < length cells
    → cell (slice_set cells at now) k ≡ (if k == at then now else cell cells k)
cell-set cells at now k low = by_test (k == at) refl where
  by_test : (t : Bool) → (k == at) ≡ t → cell (slice_set cells at now) k ≡ (if t then now else cell cells k)
  by_test true same =
      let is : k ≡ at = grind (arith, nat_tests) in
      rw is (get_or-set_same cells at now None low)
  by_test false other = get_or-set_other cells at k now None (λ is. absurd (let same = eq-eqb k at is in cc))

-- an octet is laid, and the others after it
pub lays-one : (cells : List (Option ℕ)) (at octet : ℕ) (rest : List ℕ) (k : ℕ) → at < length cells
    → or_else (cell (slice_set cells at (or_else (cell cells at) (Some octet))) k) (octet_in (at + 1) rest k)
    ≡ or_else (cell cells k) (octet_in at (octet ∷ rest) k)
lays-one cells at octet rest k low =
    rw (cell-set cells at (or_else (cell cells at) (Some octet)) k low, octet_in-cons at octet rest k) (by_test (k == at) refl) where
      first : (c other : Option ℕ) → or_else (or_else c (Some octet)) other ≡ or_else c (Some octet)
      first None other = refl
      first (Some x) other = refl

      by_test : (t : Bool) → (k == at) ≡ t
          → or_else (if t then or_else (cell cells at) (Some octet) else cell cells k) (octet_in (at + 1) rest k)
          ≡ or_else (cell cells k) (if t then Some octet else octet_in (at + 1) rest k)
      by_test true same =
          let is : k ≡ at = grind (arith, nat_tests) in
          rw is (first (cell cells at) (octet_in (at + 1) rest at))
      by_test false other = refl
