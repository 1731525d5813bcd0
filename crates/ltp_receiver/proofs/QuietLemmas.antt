-- Steps that aren't quiet.

use Rattle.std.proofs.Common.{◌≡◌, ℕ, zero, suc, ◌+◌, ◌-◌, ◌<◌, ◌≤◌, Bool, true, false, ◌||◌, List, [], ◌∷◌, length, Option, None, Some, is_some, inl, inr, arith, refl, sym, ◌∙◌, ap, subst}
use Rattle.std.proofs.lemmas.Bool.{cases_lt}
use Rattle.spans.specs.Places.{all_covered}
use Rattle.spans.proofs.Places.{all_covered-true, all_covered-from}
use Rattle.cells.specs.Cells.{cell, filled, octet_in, or_else}
use Rattle.cells.specs.Covers.{Covers}
use Rattle.cells.proofs.CellLemmas.{cell-filled, length-filled, cells-same, or_else-none, octet_in-inside, octet_in-before_first, octet_in-past}
use Rattle.ltp_segment.specs.Kinds.{is_red, is_checkpoint}
use Rattle.ltp_segment.specs.Policy.{PolicyValue}
use Rattle.ltp_segment.specs.Values.{PieceValue, ContentValue, a_report, a_receiver_cancel}
use Rattle.ltp_session.specs.Timer.{is_past_serials}
use Rattle.ltp_session.specs.Step.{StepValue, after, by_system}
use Rattle.ltp_session.specs.Receiver.{Receiving, is_outside, is_miscoloured, with_red, report_of, red_part, takes_red, piece_step}
use Rattle.ltp_receiver.specs.Quiet.{kept_cells, IsQuietStep}
use Rattle.ltp_receiver.proofs.KeptLemmas.{takes_red-plain, piece-rejected, piece-red, piece-green}

-- ---- a step that sends

pub sends-loud : (kept : Option Receiving) (step : StepValue Receiving) (content : ContentValue) (rest : List ContentValue)
    → step.out ≡ content ∷ rest → IsQuietStep kept step → ⊥
sends-loud kept step content rest is quiet = let none : content ∷ rest ≡ [] = sym is ∙ quiet.out in absurd (cc)

pub rejected-loud : (policy : PolicyValue) (r : Receiving) (piece : PieceValue) (now : ℕ) → is_outside r piece ≡ false
    → is_miscoloured r piece ≡ true → IsQuietStep (Some r) (piece_step policy r piece now) → ⊥
rejected-loud policy r piece now inside wrong =
    sends-loud (Some r) (piece_step policy r piece now) _ [] (ap (λ (s : StepValue Receiving). s.out) (piece-rejected policy r piece now inside wrong))

-- ---- green data

pub green-loud : (policy : PolicyValue) (r : Receiving) (piece : PieceValue) (now : ℕ) → is_outside r piece ≡ false
    → is_miscoloured r piece ≡ false → is_red piece.kind ≡ false → IsQuietStep (Some r) (piece_step policy r piece now) → ⊥
green-loud policy r piece now inside right green quiet =
    let none = sym (ap (λ (s : StepValue Receiving). s.green) (piece-green policy r piece now inside right green)) ∙ quiet.green in absurd (cc)

-- ---- red data

-- the cells of a red piece's step are those that it fills
red-cells : (policy : PolicyValue) (r : Receiving) (piece : PieceValue) (now : ℕ) (kept : Option Receiving)
    → kept_cells (after (takes_red policy r piece now).next kept) ≡ Some r.cells
red-cells policy r piece now kept = by_test (is_checkpoint piece.kind) refl (is_past_serials r.serial) refl
  where
    by_test : (t : Bool) → is_checkpoint piece.kind ≡ t → (u : Bool) → is_past_serials r.serial ≡ u
        → kept_cells (after (takes_red policy r piece now).next kept) ≡ Some r.cells
    by_test true is true past = rw (is, past) refl
    by_test true is false past = rw (is, past) refl
    by_test false is u past = rw is refl

some-same : {X : Type 0} (x y : X) → Some x ≡ Some y → x ≡ y
some-same x y is = cc

pub filled-loud : (policy : PolicyValue) (r : Receiving) (piece : PieceValue) (now : ℕ) → is_outside r piece ≡ false
    → is_miscoloured r piece ≡ false → is_red piece.kind ≡ true
    → (filled r.cells piece.offset piece.body ≡ r.cells → ⊥) → IsQuietStep (Some r) (piece_step policy r piece now) → ⊥
filled-loud policy r piece now inside right red more quiet =
    more (some-same _ _ (sym (red-cells policy (with_red r piece) piece now (Some r))
    ∙ (sym (ap (λ (s : StepValue Receiving). kept_cells (after s.next (Some r))) (piece-red policy r piece now inside right red)) ∙ quiet.octets)))

pub red-loud : (policy : PolicyValue) (r : Receiving) (piece : PieceValue) (now : ℕ) → is_outside r piece ≡ false
    → is_miscoloured r piece ≡ false → is_red piece.kind ≡ true
    → (is_checkpoint piece.kind || is_some (red_part (with_red r piece))) ≡ true → IsQuietStep (Some r) (piece_step policy r piece now) → ⊥
red-loud policy r piece now inside right red answered quiet =
    by_test (is_checkpoint piece.kind) refl (is_past_serials (with_red r piece).serial) refl answered
    (subst (λ (s : StepValue Receiving). IsQuietStep (Some r) s) (piece-red policy r piece now inside right red) quiet)
  where
    by_part : (part : Option (List ℕ)) → is_some part ≡ true → part ≡ None → ⊥
    by_part None some none = absurd (cc)
    by_part (Some body) some none = absurd (cc)

    by_test : (t : Bool) → is_checkpoint piece.kind ≡ t → (u : Bool) → is_past_serials (with_red r piece).serial ≡ u
        → (t || is_some (red_part (with_red r piece))) ≡ true → IsQuietStep (Some r) (takes_red policy (with_red r piece) piece now) → ⊥
    by_test true is true past answered quiet = sends-loud (Some r) (takes_red policy (with_red r piece) piece now) (a_receiver_cancel by_system) [] (rw (is, past) refl) quiet
    by_test true is false past answered quiet = sends-loud (Some r) (takes_red policy (with_red r piece) piece now) (a_report (report_of (with_red r piece) piece)) [] (rw (is, past) refl) quiet
    by_test false is u past answered quiet = by_part (red_part (with_red r piece)) answered
        (sym (ap (λ (s : StepValue Receiving). s.up) (takes_red-plain policy (with_red r piece) piece now is)) ∙ quiet.up)

-- ---- places that have an octet

either-octet : (a b : Option ℕ) → is_some a ≡ true → or_else a b ≡ a
either-octet None b is = absurd (cc)
either-octet (Some x) b is = refl

some-within : (cells : List (Option ℕ)) (k : ℕ) → is_some (cell cells k) ≡ true → k < length cells
some-within [] zero is = absurd (cc)
some-within [] (suc k) is = absurd (cc)
some-within (c ∷ cells) zero is = omega arith
some-within (c ∷ cells) (suc k) is = let later = some-within cells k is in omega (arith, later)

-- all places of a piece have one: it fills none
pub all-filled : {most : ℕ} (places : List Bool) (cells : List (Option ℕ)) (offset : ℕ) (body : List ℕ) → Covers most places cells
    → 0 < length body → offset + length body ≤ most → all_covered offset (offset + length body) places ≡ true → filled cells offset body ≡ cells
all-filled places cells offset body covers some fits all = cells-same (filled cells offset body) cells sizes each
  where
    has : (k : ℕ) → offset ≤ k → k < offset + length body → is_some (cell cells k) ≡ true
    has k from to = sym (covers.each k) ∙ all_covered-true offset (offset + length body) places (rw covers.limit fits) all k from to

    sizes : length (filled cells offset body) ≡ length cells
    sizes =
        let last = some-within cells (offset + length body - 1) (has (offset + length body - 1) (omega (arith, some)) (omega (arith, some))) in
        omega (arith, length-filled cells offset body, last, some)

    each : (k : ℕ) → cell (filled cells offset body) k ≡ cell cells k
    each k = cell-filled cells offset body k ∙ elim (cases_lt k offset) [
      | inl below ↦ rw (octet_in-before_first offset body k below) (or_else-none (cell cells k))
      | inr from ↦ elim (cases_lt k (offset + length body)) [
        | inl to ↦ either-octet (cell cells k) (octet_in offset body k) (has k from to)
        | inr past ↦ rw (octet_in-past offset body k past) (or_else-none (cell cells k))
      ]
    ]

some-either : (a b : Option ℕ) → is_some b ≡ true → is_some (or_else a b) ≡ true
some-either None b is = is
some-either (Some x) b is = refl

-- some place has none: it fills one
pub some-filled : {most : ℕ} (places : List Bool) (cells : List (Option ℕ)) (offset : ℕ) (body : List ℕ) → Covers most places cells
    → offset + length body ≤ most → all_covered offset (offset + length body) places ≡ false → filled cells offset body ≡ cells → ⊥
some-filled places cells offset body covers fits some is =
    let all = all_covered-from offset (offset + length body) places (rw covers.limit fits) (λ k from to. covers.each k ∙ has k from to) in
    absurd (cc)
  where
    has : (k : ℕ) → offset ≤ k → k < offset + length body → is_some (cell cells k) ≡ true
    has k from to = ap (λ cs. is_some (cell cs k)) (sym is)
        ∙ (ap (λ o. is_some o) (cell-filled cells offset body k)
        ∙ some-either (cell cells k) (octet_in offset body k) (ap (λ o. is_some o) (octet_in-inside offset body k from to)))
