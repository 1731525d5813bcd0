-- A red part place by place: cells that show it, and a block that it is the front of.
use Rattle.std.proofs.Common.{◌≡◌, ℕ, zero, suc, ◌+◌, ◌-◌, ◌<◌, ◌≤◌, max, Bool, true, false, ◌&&◌, ◌||◌, ◌==◌, List, [], ◌∷◌, length, take, Option, None, Some, is_some, refl, sym, ◌∙◌, ap, arith, subst, ⊎_elim, ltb-false, eqb-true, nat_lt, nat_le, if◌then◌else◌}
use Rattle.std.specs.Prelude.{All, slice_index}
use Rattle.std.proofs.lemmas.Bool.{eq-eqb, cases_lt, ltb-true, leb-true}
use Rattle.std.proofs.lemmas.Grind.{same_number_lists}
use Rattle.std.proofs.lemmas.List.{get_or_past, get_or-take, length-take-le}
use Rattle.std.proofs.lemmas.List.Elements.{All-head, All-tail}
use Rattle.ltp_session.specs.Cells.{cell, octet_in, filled, all_octets, whole_part, length_after, is_misplaced}
use Rattle.ltp_session.specs.RedPart.{RedPiece, red_stop, or_else, first_octet, red_length, red_reach, is_filled_below, is_whole, IsRedPart, IsOfBlock, IsFrontOfBlock}
use Rattle.cells.proofs.CellLemmas.{cell-filled, length-filled, all_octets-length, all_octets-cell, all_octets-only, all_octets-some}

-- ---- filled places

pub filled_below-place : (n : ℕ) (pieces : List RedPiece) → is_filled_below n pieces ≡ true
    → (k : ℕ) → k < n → is_some (first_octet pieces k) ≡ true
filled_below-place zero pieces is k low = absurd (omega arith)
filled_below-place (suc n) pieces is k low =
    let parts = both (is_some (first_octet pieces n)) (is_filled_below n pieces) is in
    ⊎_elim (λ below. filled_below-place n pieces parts.1 k below)
    (λ here. let last : k ≡ n = omega arith in rw last parts.0) (cases_lt k n)
  where
    both : (a b : Bool) → (a && b) ≡ true → (a ≡ true) × (b ≡ true)
    both true true h = (refl, refl)
    both true false h = absurd (cc)
    both false b h = absurd (cc)

pub place-filled_below : (n : ℕ) (pieces : List RedPiece)
    → ((k : ℕ) → k < n → is_some (first_octet pieces k) ≡ true) → is_filled_below n pieces ≡ true
place-filled_below zero pieces has = refl
place-filled_below (suc n) pieces has =
    rw (has n (omega arith), place-filled_below n pieces (λ k low. has k (omega arith))) refl

-- ---- cells that show pieces

-- the cells, the length and the reach are those that the pieces give
pub record Agrees (cells : List (Option ℕ)) (known : Option ℕ) (pieces : List RedPiece) : Type 0 where
  pub known_is : known ≡ red_length pieces
  pub octets : (k : ℕ) → cell cells k ≡ first_octet pieces k
  pub reach : length cells ≡ red_reach pieces
  pub within : (n : ℕ) → known ≡ Some n → length cells ≤ n

-- a red part is whole
pub red_part-whole : (pieces : List RedPiece) (body : List ℕ) → IsRedPart pieces body → is_whole pieces ≡ true
red_part-whole pieces body part =
    rw part.ends (place-filled_below (length body) pieces (λ k low. ap is_some (part.first k low)))

-- the whole part of the cells is the red part of the pieces
pub whole_part-red : (cells : List (Option ℕ)) (known : Option ℕ) (pieces : List RedPiece) (body : List ℕ)
    → Agrees cells known pieces → whole_part cells known ≡ Some body → IsRedPart pieces body
whole_part-red cells None pieces body agrees is = absurd (cc)
whole_part-red cells (Some n) pieces body agrees is = by_test (n == length cells) refl is
  where
    by_test : (t : Bool) → (n == length cells) ≡ t → (if t then all_octets cells else None) ≡ Some body → IsRedPart pieces body
    by_test true test is =
        let size = all_octets-length cells body is in
        let equal : n ≡ length cells = eqb-true n (length cells) test in
        let ends : Some n ≡ Some (length body) = ap Some (equal ∙ sym size) in
        record {
          ends = sym agrees.known_is ∙ ends;
          first = λ k low. sym (agrees.octets k) ∙ all_octets-cell cells body is k low;
        }
    by_test false test is = absurd (cc)

-- places that have octets lie within the cells
reaches : (cells : List (Option ℕ)) (m : ℕ) → ((k : ℕ) → k < m → is_some (cell cells k) ≡ true) → m ≤ length cells
reaches cells zero has = omega arith
reaches cells (suc m) has = ⊎_elim (λ inside. omega arith)
    (λ past.
    let missing : is_some (cell cells m) ≡ false = ap is_some (get_or_past cells m None past) in
    let found : is_some (cell cells m) ≡ true = has m (omega arith) in absurd (cc))
    (cases_lt m (length cells))

-- and the other way round
pub red-whole_part : (cells : List (Option ℕ)) (known : Option ℕ) (pieces : List RedPiece) (body : List ℕ)
    → Agrees cells known pieces → IsRedPart pieces body → whole_part cells known ≡ Some body
red-whole_part cells None pieces body agrees part = let is = agrees.known_is ∙ part.ends in absurd (cc)
red-whole_part cells (Some n) pieces body agrees part =
    let is : Some n ≡ Some (length body) = agrees.known_is ∙ part.ends in
    let size : n ≡ length body = cc in
    let low : length cells ≤ n = agrees.within n refl in
    let high : n ≤ length cells = reaches cells n
    (λ k below. ap is_some (agrees.octets k ∙ part.first k (omega arith))) in
    let equal : n ≡ length cells = omega arith in
    rw (eq-eqb n (length cells) equal)
    (all_octets-only cells body (omega arith) (λ k below. agrees.octets k ∙ part.first k below))

-- where the pieces are whole, there is a whole part
pub whole-some : (cells : List (Option ℕ)) (known : Option ℕ) (pieces : List RedPiece)
    → Agrees cells known pieces → is_whole pieces ≡ true → is_some (whole_part cells known) ≡ true
whole-some cells None pieces agrees is =
    let w : false ≡ true = rw (sym agrees.known_is) at is in absurd (cc)
whole-some cells (Some n) pieces agrees is =
    let below : is_filled_below n pieces ≡ true = rw (sym agrees.known_is) at is in
    let has = λ (k : ℕ) (low : k < n). ap is_some (agrees.octets k) ∙ filled_below-place n pieces below k low in
    let high : n ≤ length cells = reaches cells n has in
    let low : length cells ≤ n = agrees.within n refl in
    let equal : n ≡ length cells = omega arith in
    rw (eq-eqb n (length cells) equal) (all_octets-some cells (λ k inside. has k (omega arith)))

-- ---- a piece more

length_after-same : (known : Option ℕ) (final : Bool) (stop : ℕ)
    → length_after known final stop ≡ or_else known (if final then Some stop else None)
length_after-same None final stop = refl
length_after-same (Some n) final stop = refl

neither : (a b : Bool) → (a || b) ≡ false → (a ≡ false) × (b ≡ false)
neither false false h = (refl, refl)
neither false true h = absurd (cc)
neither true b h = absurd (cc)

-- an end that comes first lies at or after all that came
first_end : (size stop n : ℕ) (final : Bool) → (final && (false || nat_lt stop size)) ≡ false
    → (if final then Some stop else None) ≡ Some n → max size stop ≤ n
first_end size stop n false apart end = absurd (cc)
first_end size stop n true apart end =
    let below : size ≤ stop = ltb-false stop size apart in
    let same : stop ≡ n = cc in omega arith

inside_of : (size : ℕ) (known : Option ℕ) (final : Bool) (stop : ℕ)
    → ((n : ℕ) → known ≡ Some n → size ≤ n) → is_misplaced size known final stop ≡ false
    → (n : ℕ) → length_after known final stop ≡ Some n → max size stop ≤ n
inside_of size None final stop within is n end = first_end size stop n final is end
inside_of size (Some m) final stop within is n end =
    let parts = neither _ _ is in
    let below : stop ≤ m = ltb-false m stop parts.0 in
    let reach : size ≤ m = within m refl in
    let same : m ≡ n = cc in omega arith

pub agrees-more : (cells : List (Option ℕ)) (known : Option ℕ) (pieces : List RedPiece) (piece : RedPiece) → Agrees cells known pieces
    → is_misplaced (length cells) known piece.ends (red_stop piece) ≡ false
    → Agrees (filled cells piece.offset piece.body) (length_after known piece.ends (red_stop piece)) (piece ∷ pieces)
agrees-more cells known pieces piece agrees fits =
    let size = length-filled cells piece.offset piece.body in
    record {
      known_is = length_after-same known piece.ends (red_stop piece)
          ∙ ap (λ (o : Option ℕ). or_else o (if piece.ends then Some (red_stop piece) else None)) agrees.known_is;
      octets = λ k. cell-filled cells piece.offset piece.body k ∙ ap (λ (o : Option ℕ). or_else o (octet_in piece.offset piece.body k)) (agrees.octets k);
      reach = size ∙ ap (λ (n : ℕ). max n (red_stop piece)) agrees.reach;
      within = λ n end. rw size (inside_of (length cells) known piece.ends (red_stop piece) agrees.within fits n end);
    }

pub nothing-agrees : Agrees [] None []
nothing-agrees = record { known_is = refl; octets = λ k. refl; reach = refl; within = λ n end. absurd (cc) }

-- what is whole stays whole
some-stays : (a b : Option ℕ) → is_some a ≡ true → is_some (or_else a b) ≡ true
some-stays None b some = absurd (cc)
some-stays (Some x) b some = refl

filled_below-stays : (n : ℕ) (pieces : List RedPiece) (piece : RedPiece) → is_filled_below n pieces ≡ true → is_filled_below n (piece ∷ pieces) ≡ true
filled_below-stays n pieces piece is =
    place-filled_below n (piece ∷ pieces) (λ k low. some-stays (first_octet pieces k) (octet_in piece.offset piece.body k) (filled_below-place n pieces is k low))

pub whole-stays : (pieces : List RedPiece) (piece : RedPiece) → is_whole pieces ≡ true → is_whole (piece ∷ pieces) ≡ true
whole-stays pieces piece whole = by_length (red_length pieces) refl
  where
    by_length : (o : Option ℕ) → red_length pieces ≡ o → is_whole (piece ∷ pieces) ≡ true
    by_length None none = let never : false ≡ true = rw none at whole in absurd (cc)
    by_length (Some n) some =
        let below : is_filled_below n pieces ≡ true = rw some at whole in
        rw some (filled_below-stays n pieces piece below)

-- ---- a block

-- an octet of the block at a place
abbrev IsAt : List ℕ → ℕ → ℕ → Type 0
IsAt block k octet = (k < length block) × (octet ≡ slice_index block k)

octet_in-at : (block : List ℕ) (p : RedPiece) → IsOfBlock block p → (k octet : ℕ)
    → octet_in p.offset p.body k ≡ Some octet → IsAt block k octet
octet_in-at block p of k octet is = by_test (nat_le p.offset k) refl (nat_lt k (p.offset + length p.body)) refl is
  where
    by_test : (low : Bool) → nat_le p.offset k ≡ low → (high : Bool) → nat_lt k (p.offset + length p.body) ≡ high
        → (if low && high then Some (slice_index p.body (k - p.offset)) else None) ≡ Some octet → IsAt block k octet
    by_test true low true high is =
        let from : p.offset ≤ k = leb-true p.offset k low in
        let to : k < p.offset + length p.body = ltb-true k (p.offset + length p.body) high in
        let at = of (k - p.offset) (omega (arith, from, to)) in
        let place : p.offset + (k - p.offset) ≡ k = omega (arith, from) in
        let there : IsAt block (p.offset + (k - p.offset)) (slice_index p.body (k - p.offset)) = (at.0, at.1) in
        let same : slice_index p.body (k - p.offset) ≡ octet = cc (is) in
        subst (λ o. IsAt block k o) same
        (subst (λ i. IsAt block i (slice_index p.body (k - p.offset))) place there)
    by_test true low false high is = absurd (cc)
    by_test false low high high_is is = absurd (cc)

first_octet-at : (block : List ℕ) (pieces : List RedPiece) → All (IsOfBlock block) pieces → (k octet : ℕ)
    → first_octet pieces k ≡ Some octet → IsAt block k octet
first_octet-at block [] all k octet is = absurd (cc)
first_octet-at block (p ∷ earlier) all k octet is =
    by_first (first_octet-at block earlier (All-tail (IsOfBlock block) p earlier all) k octet) (first_octet earlier k) refl is
  where
    by_first : (first_octet earlier k ≡ Some octet → IsAt block k octet) → (o : Option ℕ) → first_octet earlier k ≡ o
        → or_else o (octet_in p.offset p.body k) ≡ Some octet → IsAt block k octet
    by_first earlier-at None none is = octet_in-at block p (All-head (IsOfBlock block) p earlier all) k octet is
    by_first earlier-at (Some first) some is = earlier-at (some ∙ is)

pub front_of_block : (block : List ℕ) (pieces : List RedPiece) (body : List ℕ)
    → All (IsOfBlock block) pieces → IsRedPart pieces body → body ≡ take (length body) block
front_of_block block pieces body all part =
    same_number_lists body (take (length body) block) (sym size)
    (λ k low. (at k low).1 ∙ sym (get_or-take (length body) block k 0 low))
  where
    at : (k : ℕ) → k < length body → IsAt block k (slice_index body k)
    at k low = first_octet-at block pieces all k (slice_index body k) (part.first k low)

    within : (n : ℕ) → length body ≡ n → n ≤ length block
    within zero is = omega arith
    within (suc n) is = (at n (omega (arith, is))).0

    size : length (take (length body) block) ≡ length body
    size = length-take-le (length body) block (within (length body) refl)

pub all_fronts : IsFrontOfBlock
all_fronts = front_of_block
