-- Places that have an octet, as covered places.

use Rattle.std.proofs.Common.{◌≡◌, ℕ, zero, suc, ◌+◌, ◌-◌, ◌<◌, ◌≤◌, Bool, true, false, ◌&&◌, ◌||◌, List, length, replicate, Option, None, Some, is_some, refl, sym, ◌∙◌, ap, arith, ⊎_elim, inl, inr, ◌⊎◌}
use Rattle.std.proofs.lemmas.Bool.{cases_lt}
use Rattle.std.proofs.lemmas.List.{get_or-replicate, get_or_past, length-replicate}
use Rattle.spans.specs.Places.{is_covered, is_in, uncovered, with_covered, all_covered}
use Rattle.spans.proofs.Covering.{same_truth}
use Rattle.spans.proofs.Places.{is_covered-with_covered, length-with_covered, all_covered-true, all_covered-from}
use Rattle.ltp_session.specs.Cells.{octet_in}
use Rattle.ltp_session.specs.RedPart.{or_else}
use Rattle.ltp_audit.specs.declared.places.TheConstants.{LAST}
use Rattle.ltp_audit.specs.Recorded.{are_held}
use Rattle.ltp_audit.specs.Held.{CoversHeld}

is_covered-uncovered : (limit k : ℕ) → is_covered (uncovered limit) k ≡ false
unfolding uncovered
is_covered-uncovered limit k = ⊎_elim
    (λ low. get_or-replicate limit k false false low)
    (λ past. get_or_past (replicate limit false) k false (omega (arith, length-replicate {A = Bool}, past)))
    (cases_lt k limit)

some-octet_in : (offset : ℕ) (body : List ℕ) (k : ℕ) → is_some (octet_in offset body k) ≡ is_in offset (offset + length body) k
some-octet_in offset body k = by_test (is_in offset (offset + length body) k) refl
  where
    by_test : (t : Bool) → is_in offset (offset + length body) k ≡ t → is_some (octet_in offset body k) ≡ t
    by_test true inside = rw inside refl
    by_test false outside = rw outside refl

some-or_else : (a b : Option ℕ) → is_some (or_else a b) ≡ (is_some a || is_some b)
some-or_else None b = refl
some-or_else (Some x) b = refl

-- no place is covered, and there is no octet
pub covers-none : (places : List Bool) (limit : ℕ) (octet : ℕ → Option ℕ) → places ≡ uncovered limit → length places ≡ LAST
    → ((place : ℕ) → octet place ≡ None) → CoversHeld places octet
covers-none places limit octet is most none = record {
  limit = most;
  each = λ place. rw (is, is_covered-uncovered limit place, none place) refl;
}

-- the places of some octets are covered too
pub covers-more : (places now : List Bool) (octet : ℕ → Option ℕ) (offset to : ℕ) (body : List ℕ) → CoversHeld places octet
    → to ≡ offset + length body → to ≤ LAST → now ≡ with_covered offset to places
    → CoversHeld now (λ place. or_else (octet place) (octet_in offset body place))
covers-more places now octet offset to body so_far ends fits is =
    let order : offset ≤ to = omega (arith, ends) in
    let within : to ≤ length places = omega (arith, so_far.limit, fits) in
    record {
      limit = ap length is ∙ (length-with_covered offset to places order within ∙ so_far.limit);
      each = λ k. rw is (is_covered-with_covered offset to places k order within
          ∙ (ap (λ t. t || is_in offset to k) (so_far.each k)
          ∙ (ap (λ t. is_some (octet k) || is_in offset t k) ends
          ∙ (ap (λ t. is_some (octet k) || t) (sym (some-octet_in offset body k))
          ∙ sym (some-or_else (octet k) (octet_in offset body k))))));
    }

-- ---- places that all have one

pub are_held-true : (octet : ℕ → Option ℕ) (place n k : ℕ) → are_held octet place n ≡ true → place ≤ k → k < place + n
    → is_some (octet k) ≡ true
are_held-true octet place zero k all from to = absurd (omega arith)
are_held-true octet place (suc n) k all from to =
    by_first (is_some (octet place)) refl (are_held octet (place + 1) n) refl all (cases_lt place k)
    (λ rest after. are_held-true octet (place + 1) n k rest (omega arith) (omega arith)) where
      by_first : (a : Bool) → is_some (octet place) ≡ a → (b : Bool) → are_held octet (place + 1) n ≡ b → (a && b) ≡ true
          → (place < k) ⊎ (k ≤ place) → (are_held octet (place + 1) n ≡ true → place < k → is_some (octet k) ≡ true) → is_some (octet k) ≡ true
      by_first true first true others both (inl after) later = later others after
      by_first true first true others both (inr to_it) later = let same : k ≡ place = omega arith in rw same first
      by_first true first false others both place later = absurd (cc)
      by_first false first b others both place later = absurd (cc)

pub are_held-from : (octet : ℕ → Option ℕ) (place n : ℕ) → ((k : ℕ) → place ≤ k → k < place + n → is_some (octet k) ≡ true)
    → are_held octet place n ≡ true
are_held-from octet place zero each = refl
are_held-from octet place (suc n) each =
    let first = each place (omega arith) (omega arith) in
    let rest = are_held-from octet (place + 1) n (λ k from to. each k (omega arith) (omega arith)) in
    rw (first, rest) refl

pub covered-held : (places : List Bool) (octet : ℕ → Option ℕ) (from to : ℕ) → CoversHeld places octet → from ≤ to → to ≤ LAST
    → all_covered from to places ≡ are_held octet from (to - from)
covered-held places octet from to covers order fits =
    let within : to ≤ length places = omega (arith, covers.limit, fits) in
    same_truth (all_covered from to places) (are_held octet from (to - from))
    (λ all. are_held-from octet from (to - from) (λ k low high. sym (covers.each k) ∙ all_covered-true from to places within all k low (omega arith)))
    (λ all. all_covered-from from to places within (λ k low high. covers.each k ∙ are_held-true octet from (to - from) k all low (omega arith)))

-- one place that has none is enough
pub none-held : (octet : ℕ → Option ℕ) (from to : ℕ) → ((place : ℕ) → octet place ≡ None) → from < to
    → are_held octet from (to - from) ≡ false
none-held octet from to none order =
    let more : to - from ≡ suc (to - from - 1) = omega arith in
    rw more (rw (none from) refl)
