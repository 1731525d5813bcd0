-- A part of a block, cut segment by segment.

use Rattle.std.proofs.Common.{◌≡◌, ℕ, zero, suc, ◌+◌, ◌-◌, ◌<◌, ◌≤◌, Bool, true, false, List, [], ◌∷◌, ◌++◌, length, take, drop, min, refl, sym, ap, subst, ◌∙◌, arith, map, inl, inr}
use Rattle.std.specs.Prelude.{slice_range, slice_index_or, All}
use Rattle.std.proofs.lemmas.Bool.{and_parts, and_from, cases_lt}
use Rattle.std.proofs.lemmas.List.{length-drop, length-take-le, drop-drop, drop_all, take_min, map-append, append_assoc, append-nil}
use Rattle.std.proofs.lemmas.List.Elements.{All-push}
use Rattle.spans.specs.declared.range.Run.{Run}
use Rattle.spans.specs.Places.{is_covered, runs_of}
use Rattle.spans.specs.Runs.{HasAll}
use Rattle.spans.proofs.PlaceLaws.{runs_of-has}
use Rattle.ltp_session.specs.Sender.{segments_from, segments_of, are_claimed, is_claimed, unclaimed}
use Rattle.ltp_sender.specs.declared.segments.Segment.{Segment}
use Rattle.ltp_sender.specs.Ranges.{Tell, Forgets}
use Rattle.ltp_sender.specs.Segments.{segment_in, IsOn}

-- ---- cutting

pub segments_from-nil : (size n at : ℕ) → segments_from size n at [] ≡ []
unfolding segments_from
segments_from-nil size zero at = refl
segments_from-nil size (suc n) at = refl

-- as many as there are octets are enough
pub segments_from-enough : (size n m at : ℕ) (octets : List ℕ) → 1 ≤ size → length octets ≤ n → length octets ≤ m
    → segments_from size n at octets ≡ segments_from size m at octets
unfolding segments_from
segments_from-enough size n m at [] some le_n le_m = segments_from-nil size n at ∙ sym (segments_from-nil size m at)
segments_from-enough size zero m at (x ∷ xs) some le_n le_m = absurd (omega arith)
segments_from-enough size (suc n) zero at (x ∷ xs) some le_n le_m = absurd (omega arith)
segments_from-enough size (suc n) (suc m) at (x ∷ xs) some le_n le_m =
    let less = length-drop size (x ∷ xs) in
    ap (λ rest. (at, take size (x ∷ xs)) ∷ rest)
    (segments_from-enough size n m (at + size) (drop size (x ∷ xs)) some (omega (arith, less)) (omega (arith, less)))

pub segments_of-cons : (size at : ℕ) (octets : List ℕ) → 1 ≤ size → 0 < length octets
    → segments_of size at octets ≡ (at, take size octets) ∷ segments_of size (at + size) (drop size octets)
unfolding segments_from
segments_of-cons size at [] some any = absurd (omega arith)
segments_of-cons size at (x ∷ xs) some any =
    let less = length-drop size (x ∷ xs) in
    ap (λ rest. (at, take size (x ∷ xs)) ∷ rest)
    (segments_from-enough size (length xs) (length (drop size (x ∷ xs))) (at + size) (drop size (x ∷ xs)) some (omega (arith, less)) (omega arith))

-- the rest of a part that begins at a place
abbrev pub rest_of : ℕ → List ℕ → ℕ → List (ℕ × List ℕ)
rest_of size part from = segments_of size from (drop from part)

pub rest_of-end : (size from : ℕ) (part : List ℕ) → length part ≤ from → rest_of size part from ≡ []
rest_of-end size from part end = rw (drop_all from part end) (segments_from-nil size 0 from)

-- it is its first segment and the rest after that
pub rest_of-step : (size from : ℕ) (part : List ℕ) (segment : Segment) → 1 ≤ size → from < length part
    → segment.from ≡ from → segment.to ≡ from + min size (length part - from)
    → rest_of size part from ≡ segment_in part segment ∷ rest_of size part segment.to
rest_of-step size from part segment some any is_from is_to =
    let left = length-drop from part in
    segments_of-cons size from (drop from part) some (omega (arith, left))
    ∙ ap (λ here. here ∷ segments_of size (from + size) (drop size (drop from part))) first
    ∙ ap (λ later. segment_in part segment ∷ later) others
  where
    width : segment.to - segment.from ≡ min size (length (drop from part))
    width = let left = length-drop from part in omega (arith, left, is_from, is_to)

    first : (from, take size (drop from part)) ≡ segment_in part segment
    first =
        ap (λ octets. (from, octets)) (sym (take_min size (drop from part)))
        ∙ ap (λ n. (from, take n (drop from part))) (sym width)
        ∙ ap (λ at. (at, take (segment.to - segment.from) (drop at part))) (sym is_from)

    others : segments_of size (from + size) (drop size (drop from part)) ≡ rest_of size part segment.to
    others = elim (cases_lt (length part - from) size) [
      | inl short ↦ (
          let to : segment.to ≡ length part = omega (arith, is_to, short) in
          let left = length-drop from part in
          rw (drop_all size (drop from part) (omega (arith, left, short)), drop_all segment.to part (omega (arith, to)))
          (segments_from-nil size 0 (from + size) ∙ sym (segments_from-nil size 0 segment.to)))
      | inr long ↦ (
          let to : segment.to ≡ from + size = omega (arith, is_to, long) in
          rw (drop-drop size from part, to) refl)
    ]

pub IsOn-first : (size from : ℕ) (part : List ℕ) (segment : Segment) → 1 ≤ size → from < length part
    → segment.from ≡ from → segment.to ≡ from + min size (length part - from) → IsOn (length part) segment
IsOn-first size from part segment some any is_from is_to = record {
  some = omega (arith, is_from, is_to);
  within = omega (arith, is_from, is_to);
}

-- ---- claimed segments

pub are_claimed-true : (claimed : List Bool) (at n : ℕ) → are_claimed claimed at n ≡ true
    → (k : ℕ) → at ≤ k → k < at + n → is_covered claimed k ≡ true
unfolding are_claimed
are_claimed-true claimed at zero all k low high = absurd (omega arith)
are_claimed-true claimed at (suc n) all k low high =
    let both = and_parts (slice_index_or claimed at false) (are_claimed claimed (at + 1) n) all in
    elim (cases_lt at k) [
      | inl after ↦ are_claimed-true claimed (at + 1) n both.1 k (omega arith) (omega arith)
      | inr first ↦ (let same : k ≡ at = omega arith in rw same both.0)
    ]

pub are_claimed-from : (claimed : List Bool) (at n : ℕ) → ((k : ℕ) → at ≤ k → k < at + n → is_covered claimed k ≡ true)
    → are_claimed claimed at n ≡ true
unfolding are_claimed
are_claimed-from claimed at zero all = refl
are_claimed-from claimed at (suc n) all =
    and_from (slice_index_or claimed at false) (are_claimed claimed (at + 1) n) (all at (omega arith) (omega arith))
    (are_claimed-from claimed (at + 1) n (λ k low high. all k (omega arith) (omega arith)))

length-segment : (part : List ℕ) (segment : Segment) → IsOn (length part) segment
    → segment.from + length (slice_range part segment.from segment.to) ≡ segment.to
length-segment part segment on =
    let left = length-drop segment.from part in
    let size = length-take-le (segment.to - segment.from) (drop segment.from part) (omega (arith, left, on.within)) in
    omega (arith, size, on.some)

-- a segment is claimed where the ranges have its places
pub is_claimed-has : (claimed : List Bool) (part : List ℕ) (segment : Segment) (runs : List Run) → IsOn (length part) segment
    → Tell segment.from runs claimed → HasAll segment.from segment.to runs → is_claimed claimed (segment_in part segment) ≡ true
is_claimed-has claimed part segment runs on tell has =
    let end = length-segment part segment on in
    are_claimed-from claimed segment.from (length (slice_range part segment.from segment.to))
    (λ k low high. sym (tell k low) ∙ has k low (omega (arith, end)))

pub has-is_claimed : (claimed : List Bool) (part : List ℕ) (segment : Segment) (runs : List Run) → IsOn (length part) segment
    → Tell segment.from runs claimed → is_claimed claimed (segment_in part segment) ≡ true → HasAll segment.from segment.to runs
has-is_claimed claimed part segment runs on tell all k low high =
    let end = length-segment part segment on in
    tell k low ∙ are_claimed-true claimed segment.from (length (slice_range part segment.from segment.to)) all k low (omega (arith, end))

-- ---- the unclaimed segments so far

-- these segments are those before a place, of all that aren't claimed
pub record AreBefore (size : ℕ) (part : List ℕ) (claimed : List Bool) (from : ℕ) (segments : List Segment) : Type 0 where
  pub within : from ≤ length part
  pub on : All (IsOn (length part)) segments
  pub all : map (segment_in part) segments ++ unclaimed claimed (rest_of size part from) ≡ unclaimed claimed (segments_of size 0 part)

-- what is added of one segment
pub record IsAdded (segment : Segment) (runs : List Run) (old new : List Segment) : Type 0 where
  pub claimed : HasAll segment.from segment.to runs → new ≡ old
  pub unclaimed : (HasAll segment.from segment.to runs → ⊥) → new ≡ old ++ segment ∷ []

abbrev unclaimed-by : List Bool → Bool → (ℕ × List ℕ) → List (ℕ × List ℕ) → List (ℕ × List ℕ)
unclaimed-by claimed true here rest = unclaimed claimed rest
unclaimed-by claimed false here rest = here ∷ unclaimed claimed rest

unclaimed-cons : (claimed : List Bool) (here : ℕ × List ℕ) (rest : List (ℕ × List ℕ)) (b : Bool) → is_claimed claimed here ≡ b
    → unclaimed claimed (here ∷ rest) ≡ unclaimed-by claimed b here rest
unfolding unclaimed
unclaimed-cons claimed here rest true is = rw is refl
unclaimed-cons claimed here rest false is = rw is refl

AreBefore-by : (size : ℕ) (part : List ℕ) (claimed : List Bool) (from : ℕ) (segment : Segment) (runs : List Run) (old new : List Segment) (b : Bool)
    → 1 ≤ size → from < length part → segment.from ≡ from → segment.to ≡ from + min size (length part - from)
    → Tell from runs claimed → AreBefore size part claimed from old → IsAdded segment runs old new
    → is_claimed claimed (segment_in part segment) ≡ b → AreBefore size part claimed segment.to new
AreBefore-by size part claimed from segment runs old new true some any is_from is_to tell before added is =
    let on = IsOn-first size from part segment some any is_from is_to in
    let has = has-is_claimed claimed part segment runs on (λ k low. tell k (omega (arith, is_from, low))) is in
    let same : new ≡ old = added.claimed has in
    let step = rest_of-step size from part segment some any is_from is_to in
    let cons = unclaimed-cons claimed (segment_in part segment) (rest_of size part segment.to) true is in
    record {
      within = on.within;
      on = subst (λ (xs : List Segment). All (IsOn (length part)) xs) (sym same) before.on;
      all = ap (λ (xs : List Segment). map (segment_in part) xs ++ unclaimed claimed (rest_of size part segment.to)) same
          ∙ ap (λ rest. map (segment_in part) old ++ rest) (sym cons ∙ ap (λ rest. unclaimed claimed rest) (sym step))
          ∙ before.all;
    }
AreBefore-by size part claimed from segment runs old new false some any is_from is_to tell before added is =
    let on = IsOn-first size from part segment some any is_from is_to in
    let same : new ≡ old ++ segment ∷ [] = added.unclaimed (λ has. let yes = is_claimed-has claimed part segment runs on (λ k low. tell k (omega (arith, is_from, low))) has in absurd (cc)) in
    let step = rest_of-step size from part segment some any is_from is_to in
    let cons = unclaimed-cons claimed (segment_in part segment) (rest_of size part segment.to) false is in
    record {
      within = on.within;
      on = subst (λ (xs : List Segment). All (IsOn (length part)) xs) (sym same) (All-push (IsOn (length part)) old segment before.on on);
      all = ap (λ (xs : List Segment). map (segment_in part) xs ++ unclaimed claimed (rest_of size part segment.to)) same
          ∙ ap (λ xs. xs ++ unclaimed claimed (rest_of size part segment.to)) (map-append (segment_in part) old (segment ∷ []))
          ∙ append_assoc (map (segment_in part) old) (segment_in part segment ∷ []) (unclaimed claimed (rest_of size part segment.to))
          ∙ ap (λ rest. map (segment_in part) old ++ rest) (sym cons ∙ ap (λ rest. unclaimed claimed rest) (sym step))
          ∙ before.all;
    }

pub AreBefore-step : (size : ℕ) (part : List ℕ) (claimed : List Bool) (from : ℕ) (segment : Segment) (runs : List Run) (old new : List Segment)
    → 1 ≤ size → from < length part → segment.from ≡ from → segment.to ≡ from + min size (length part - from)
    → Tell from runs claimed → AreBefore size part claimed from old → IsAdded segment runs old new → AreBefore size part claimed segment.to new
AreBefore-step size part claimed from segment runs old new some any is_from is_to tell before added =
    AreBefore-by size part claimed from segment runs old new (is_claimed claimed (segment_in part segment)) some any is_from is_to tell before added refl

pub AreBefore-first : (size : ℕ) (part : List ℕ) (claimed : List Bool) → AreBefore size part claimed 0 []
AreBefore-first size part claimed = record { within = omega arith; on = λ k d below. absurd (omega arith); all = refl }

-- at the end they are all
pub AreBefore-last : (size : ℕ) (part : List ℕ) (claimed : List Bool) (from : ℕ) (segments : List Segment) → length part ≤ from
    → AreBefore size part claimed from segments → map (segment_in part) segments ≡ unclaimed claimed (segments_of size 0 part)
unfolding unclaimed
AreBefore-last size part claimed from segments end before =
    sym (append-nil (map (segment_in part) segments))
    ∙ ap (λ rest. map (segment_in part) segments ++ unclaimed claimed rest) (sym (rest_of-end size from part end))
    ∙ before.all

-- all ranges tell all claims
pub Tell-all : (claimed : List Bool) → Tell 0 (runs_of claimed) claimed
Tell-all claimed k low = runs_of-has claimed k

pub Tell-later : (from to : ℕ) (old new : List Run) (claimed : List Bool) → from ≤ to → Tell from old claimed → Forgets from old new → Tell to new claimed
Tell-later from to old new claimed le tell forgets k low = forgets k (omega (arith, le, low)) ∙ tell k (omega (arith, le, low))
