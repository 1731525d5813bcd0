-- Fronts and parts of a text, by places.
use Rattle.std.proofs.Common.{◌≡◌, ℕ, ◌+◌, ◌-◌, ◌≤◌, List, ◌++◌, length, take, drop, sym, ap, ◌∙◌, inl, inr, arith, length-drop, length-take, drop_of_length-le, take-append-drop, get_or-drop, take-add, drop-drop}
use Rattle.std.proofs.lemmas.List.{drop-append-le, drop-take}
use Rattle.std.proofs.lemmas.Bool.{cases_lt}
use Rattle.std.proofs.Math.Seq.{take-append_seam}
use Rattle.wire_fields.specs.Reading.{IsOctets}

-- the octets from p on of a front, in the whole text
pub since_part : (p : ℕ) (front rest : List ℕ) → take (length front - p) (drop p (front ++ rest)) ≡ drop p front
since_part p front rest =
    elim (cases_lt (length front) p) [
      | inl out ↦
          let none : length front - p ≡ 0 = omega arith in
          rw none (sym (drop_of_length-le front {i = p} (omega arith)))
      | inr within ↦
          rw (drop-append-le p front rest within, ← length-drop p front) (take-append_seam (drop p front) rest)
    ]

-- the same by places
pub since_place : (p at : ℕ) (text : List ℕ) → take (at - p) (drop p text) ≡ drop p (take at text)
since_place p at text =
    elim (cases_lt at p) [
      | inl out ↦
          let none : at - p ≡ 0 = omega arith in
          rw none (sym (drop_of_length-le (take at text) {i = p} (omega (arith, length-take at text))))
      | inr within ↦
          let whole : p + (at - p) ≡ at = omega arith in
          sym (ap (λ k. drop p (take k text)) (sym whole) ∙ drop-take p (at - p) text)
    ]

-- a front is a shorter front and the part after it
pub front_seam : (text : List ℕ) (at to : ℕ) → at ≤ to → take at text ++ take (to - at) (drop at text) ≡ take to text
front_seam text at to h =
    let whole : at + (to - at) ≡ to = omega arith in
    sym (ap (λ k. take k text) (sym whole) ∙ take-add at (to - at) text)

-- a part between two places is two parts, cut at a third
pub part_seam : (text : List ℕ) (at mid to : ℕ) → at ≤ mid → mid ≤ to
    → take (to - at) (drop at text) ≡ take (mid - at) (drop at text) ++ take (to - mid) (drop mid text)
part_seam text at mid to h k =
    let whole : (mid - at) + (to - mid) ≡ to - at = omega arith in
    let place : at + (mid - at) ≡ mid = omega arith in
    ap (λ n. take n (drop at text)) (sym whole) ∙ take-add (mid - at) (to - mid) (drop at text)
    ∙ ap (λ t. take (mid - at) (drop at text) ++ take (to - mid) t) (drop-drop (mid - at) at text ∙ ap (λ n. drop n text) place)

-- what is left at a place is a part and what is left after it
pub rest_seam : (text : List ℕ) (at to : ℕ) → at ≤ to → drop at text ≡ take (to - at) (drop at text) ++ drop to text
rest_seam text at to h =
    let place : at + (to - at) ≡ to = omega arith in
    sym (take-append-drop (to - at) (drop at text))
    ∙ ap (λ t. take (to - at) (drop at text) ++ t) (drop-drop (to - at) at text ∙ ap (λ n. drop n text) place)

pub octets-drop : (n : ℕ) (text : List ℕ) → IsOctets text → IsOctets (drop n text)
octets-drop n text h = λ i. rw (get_or-drop) (h (n + i))
