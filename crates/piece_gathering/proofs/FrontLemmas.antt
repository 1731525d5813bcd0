-- The pieces in front.

use Rattle.std.proofs.Common.{◌≡◌, ℕ, suc, ◌+◌, ◌-◌, ◌<◌, ◌≤◌, ◌==◌, Bool, true, false, not, ◌&&◌, ◌||◌, nat_le, nat_lt, if◌then◌else◌, List, [], ◌∷◌, ◌++◌, length, take, drop, get_or, refl, sym, ap, ◌∙◌, arith, drop-cons, append_assoc}
use Rattle.std.proofs.lemmas.Bool.{eq-eqb, ne_eqb, ltb-false}
use Rattle.std.proofs.lemmas.List.{drop_all}
use Rattle.std.proofs.lemmas.List.Sums.{sum_by-cons}
use Rattle.std.proofs.lemmas.List.Elements.{All-head, All-push}
use Rattle.std.proofs.Math.Seq.{take-add}
use Rattle.piece_gathering.specs.declared.piece.Piece.{Piece}
use Rattle.piece_gathering.specs.declared.piece.TheConstants.{BLOCK_MAX}
use Rattle.piece_gathering.specs.Gathered.{Front, no_front, with_piece, sizes, is_apart, front_from, front_of}
use Rattle.piece_gathering.specs.Fronts.{front_after, AreWithin}

-- ---- how many, and their sizes

sizes-cons : (piece : Piece) (pieces : List Piece) → sizes (piece ∷ pieces) ≡ piece.size + sizes pieces
sizes-cons piece pieces = sum_by-cons (λ (p : Piece). p.size) piece pieces

-- a front that grows over the pieces after it
pub record Grows (wanted : ℕ) (front new : Front) (pieces : List Piece) : Type 0 where
  pub low : front.count ≤ new.count
  pub within : new.count ≤ front.count + length pieces
  pub size : new.size ≡ front.size + sizes (take (new.count - front.count) pieces)
  pub fits : front.size ≤ BLOCK_MAX → new.size ≤ BLOCK_MAX
  -- where it stops before their end, enough are there, or the next doesn't fit
  pub stops : new.count < front.count + length pieces → (piece : Piece)
      → is_apart wanted new.size (get_or pieces (new.count - front.count) piece).size ≡ true

pub grows : (wanted : ℕ) (front : Front) (pieces : List Piece) → Grows wanted front (front_from wanted front pieces) pieces
unfolding front_from
grows wanted front [] = record {
  low = omega arith;
  within = omega arith;
  size =
      let none : front.count - front.count ≡ 0 = omega arith in
      rw none (omega arith);
  fits = λ within. within;
  stops = λ less piece. absurd (omega (arith, less));
}
grows wanted front (piece ∷ pieces) = by (is_apart wanted front.size piece.size) refl (grows wanted (with_piece front piece) pieces)
  where
    by : (t : Bool) → is_apart wanted front.size piece.size ≡ t
        → Grows wanted (with_piece front piece) (front_from wanted (with_piece front piece) pieces) pieces
        → Grows wanted front (if t then front else front_from wanted (with_piece front piece) pieces) (piece ∷ pieces)
    by true apart rest =
        let none : front.count - front.count ≡ 0 = omega arith in record {
          low = omega arith;
          within = omega arith;
          size = rw none (omega arith);
          fits = λ within. within;
          stops = λ less other. rw none apart;
        }
    by false goes rest =
        let new = front_from wanted (with_piece front piece) pieces in
        let more : new.count - front.count ≡ suc (new.count - (front.count + 1)) = omega (arith, rest.low) in record {
          low = omega (arith, rest.low);
          within = omega (arith, rest.within);
          size = rw more (omega (arith, rest.size, sizes-cons piece (take (new.count - (front.count + 1)) pieces)));
          fits = λ within. rest.fits (joined front.size piece.size goes);
          stops = λ less other. rw more (rest.stops (omega (arith, less)) other);
        }
      where
        joined : (size more : ℕ) → is_apart wanted size more ≡ false → size + more ≤ BLOCK_MAX
        joined size more goes = ltb-false BLOCK_MAX (size + more) (second (nat_le wanted size) (nat_lt BLOCK_MAX (size + more)) goes)
          where
            second : (a b : Bool) → (a || b) ≡ false → b ≡ false
            second true b is = absurd (cc)
            second false b is = is

-- ---- a piece more

grown-push : (wanted : ℕ) (front : Front) (pieces : List Piece) (piece : Piece)
    → front_from wanted front (pieces ++ piece ∷ [])
    ≡ (if (front_from wanted front pieces).count == front.count + length pieces && not (is_apart wanted (front_from wanted front pieces).size piece.size)
    then with_piece (front_from wanted front pieces) piece else front_from wanted front pieces)
unfolding front_from
grown-push wanted front [] piece =
    let all : front.count ≡ front.count + 0 = omega arith in
    rw (eq-eqb front.count (front.count + 0) all) (by (is_apart wanted front.size piece.size))
  where
    by : (t : Bool) → (if t then front else with_piece front piece) ≡ (if true && not t then with_piece front piece else front)
    by true = refl
    by false = refl
grown-push wanted front (first ∷ pieces) piece =
    by (is_apart wanted front.size first.size) (grown-push wanted (with_piece front first) pieces piece)
  where
    new : Front
    new = front_from wanted (with_piece front first) pieces

    by : (t : Bool)
        → front_from wanted (with_piece front first) (pieces ++ piece ∷ [])
        ≡ (if new.count == (front.count + 1) + length pieces && not (is_apart wanted new.size piece.size) then with_piece new piece else new)
        → (if t then front else front_from wanted (with_piece front first) (pieces ++ piece ∷ []))
        ≡ (if (if t then front else new).count == front.count + suc (length pieces) && not (is_apart wanted (if t then front else new).size piece.size)
        then with_piece (if t then front else new) piece else (if t then front else new))
    by true rest = rw (ne_eqb front.count (front.count + suc (length pieces)) (λ is. absurd (omega (arith, is)))) refl
    by false rest =
        let same : front.count + suc (length pieces) ≡ (front.count + 1) + length pieces = omega arith in
        rw same rest

pub front-push : (wanted : ℕ) (pieces : List Piece) (piece : Piece)
    → front_of wanted (pieces ++ piece ∷ []) ≡ front_after wanted (front_of wanted pieces) (length pieces) piece.size
unfolding front_from
front-push wanted [] piece = refl
front-push wanted (first ∷ pieces) piece =
    let differs : (suc (length pieces) == 0) ≡ false = ne_eqb (suc (length pieces)) 0 (λ is. absurd (omega (arith, is))) in
    let same : 0 + 1 + length pieces ≡ suc (length pieces) = omega arith in
    rw differs (rw same at (grown-push wanted (with_piece no_front first) pieces piece))

-- ---- the front of all that wait

pub record IsFront (wanted : ℕ) (pieces : List Piece) : Type 0 where
  pub within : (front_of wanted pieces).count ≤ length pieces
  pub size : (front_of wanted pieces).size ≡ sizes (take (front_of wanted pieces).count pieces)
  pub fits : AreWithin pieces → (front_of wanted pieces).size ≤ BLOCK_MAX
  pub some : 0 < length pieces → 0 < (front_of wanted pieces).count

pub is-front : (wanted : ℕ) (pieces : List Piece) → IsFront wanted pieces
is-front wanted [] = record {
  within = omega arith;
  size = refl;
  fits = λ within. omega arith;
  some = λ some. some;
}
is-front wanted (piece ∷ pieces) =
    let first = with_piece no_front piece in
    let new = front_from wanted first pieces in
    let grown = grows wanted first pieces in
    let more : new.count ≡ suc (new.count - 1) = omega (arith, grown.low) in
    record {
      within = omega (arith, grown.within);
      size = rw more (omega (arith, grown.size, sizes-cons piece (take (new.count - 1) pieces)));
      fits = λ within. grown.fits (omega (arith, All-head (λ (p : Piece). p.size ≤ BLOCK_MAX) piece pieces within));
      some = λ some. omega (arith, grown.low);
    }

-- ---- what code does

-- begun with the first
pub front-start : (wanted : ℕ) (pieces : List Piece) (d : Piece) → 0 < length pieces
    → front_from wanted (record { count = 1; size = (get_or pieces 0 d).size }) (drop 1 pieces) ≡ front_of wanted pieces
front-start wanted [] d some = absurd (omega arith)
front-start wanted (piece ∷ pieces) d some =
    let same : piece.size ≡ 0 + piece.size = omega arith in
    ap (λ (n : ℕ). front_from wanted (record { count = 1; size = n }) pieces) same

next-one : (pieces : List Piece) (at : ℕ) (d : Piece) → at < length pieces → drop at pieces ≡ get_or pieces at d ∷ drop (at + 1) pieces
next-one pieces at d within =
    let next : at + 1 ≡ suc at = omega arith in
    drop-cons pieces at d within ∙ ap (λ (k : ℕ). get_or pieces at d ∷ drop k pieces) (sym next)

pub front-stops : (wanted : ℕ) (front : Front) (pieces : List Piece) (at : ℕ) (d : Piece) → at < length pieces
    → is_apart wanted front.size (get_or pieces at d).size ≡ true → front_from wanted front (drop at pieces) ≡ front
unfolding front_from
front-stops wanted front pieces at d within apart =
    ap (front_from wanted front) (next-one pieces at d within) ∙ rw apart refl

pub front-goes : (wanted : ℕ) (front : Front) (pieces : List Piece) (at : ℕ) (d : Piece) → at < length pieces
    → is_apart wanted front.size (get_or pieces at d).size ≡ false
    → front_from wanted front (drop at pieces) ≡ front_from wanted (with_piece front (get_or pieces at d)) (drop (at + 1) pieces)
unfolding front_from
front-goes wanted front pieces at d within goes =
    ap (front_from wanted front) (next-one pieces at d within) ∙ rw goes refl

pub front-ends : (wanted : ℕ) (front : Front) (pieces : List Piece) (at : ℕ) → length pieces ≤ at → front_from wanted front (drop at pieces) ≡ front
unfolding front_from
front-ends wanted front pieces at after = ap (front_from wanted front) (drop_all at pieces after)

-- what isn't apart fits
pub fits-with : (wanted size more : ℕ) → is_apart wanted size more ≡ false → size + more ≤ BLOCK_MAX
fits-with wanted size more goes = ltb-false BLOCK_MAX (size + more) (second (nat_le wanted size) (nat_lt BLOCK_MAX (size + more)) goes)
  where
    second : (a b : Bool) → (a || b) ≡ false → b ≡ false
    second true b is = absurd (cc)
    second false b is = is

-- ---- moving

-- one piece more from the front
pub moved-more : (n : ℕ) (before pieces now : List Piece) → now ≡ (before ++ take n pieces) ++ take 1 (drop n pieces) → now ≡ before ++ take (n + 1) pieces
moved-more n before pieces now is =
    is ∙ (append_assoc before (take n pieces) (take 1 (drop n pieces)) ∙ ap (λ (more : List Piece). before ++ more) (sym (take-add n 1 pieces)))

pub within-push : (pieces : List Piece) (piece : Piece) → AreWithin pieces → piece.size ≤ BLOCK_MAX → AreWithin (pieces ++ piece ∷ [])
within-push pieces piece within small = All-push (λ (p : Piece). p.size ≤ BLOCK_MAX) pieces piece within small
