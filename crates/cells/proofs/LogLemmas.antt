-- Octets in the order in which they came, and the cells that they fill.

use Rattle.std.proofs.Common.{◌≡◌, ℕ, zero, suc, ◌+◌, ◌-◌, ◌<◌, ◌≤◌, max, List, [], ◌∷◌, ◌++◌, length, take, drop, get_or, replicate, Option, Some, refl, sym, ◌∙◌, ap, arith, ⊎_elim, length-append, length-drop}
use Rattle.std.proofs.lemmas.Bool.{cases_lt}
use Rattle.std.proofs.lemmas.List.{take_more, get_or_append_left, get_or-append_right, get_or-take, get_or-drop, length-take-le, get_or-replicate, take_all, append-nil, append_assoc, take-append-le, drop-append-le, take-append-drop}
use Rattle.cells.specs.Cells.{cell, octet_in, or_else, filled}
use Rattle.cells.specs.declared.log.Held.{Held}
use Rattle.cells.specs.Laid.{size_of, laid, IsLog, StandsAfter}
use Rattle.cells.proofs.CellLemmas.{cell-filled, length-filled, octet_in-inside, octet_in-before_first, octet_in-past}
use Rattle.cells.proofs.GapLemmas.{or_else-assoc}

-- ---- one range more

pub size_of-push : (ranges : List Held) (held : Held) → size_of (ranges ++ held ∷ []) ≡ size_of ranges + held.size
size_of-push [] held = omega arith
size_of-push (first ∷ ranges) held = omega (arith, size_of-push ranges held)

pub laid-push : (cells : List (Option ℕ)) (ranges : List Held) (held : Held) (octets body : List ℕ)
    → size_of ranges ≡ length octets → held.size ≡ length body
    → laid cells (ranges ++ held ∷ []) (octets ++ body) ≡ filled (laid cells ranges octets) held.offset body
unfolding laid
laid-push cells [] held [] body size own = rw (own, take_all (length body) body (omega arith)) refl
laid-push cells [] held (o ∷ octets) body size own = absurd (omega arith)
laid-push cells (first ∷ ranges) held octets body size own =
    let low : first.size ≤ length octets = omega (arith, size) in
    let left : size_of ranges ≡ length (drop first.size octets) = omega (arith, size, length-drop first.size octets) in
    ap (λ (x : List ℕ). laid (filled cells first.offset x) (ranges ++ held ∷ []) (drop first.size (octets ++ body)))
    (take-append-le first.size octets body low)
    ∙ (ap (λ (x : List ℕ). laid (filled cells first.offset (take first.size octets)) (ranges ++ held ∷ []) x)
    (drop-append-le first.size octets body low)
    ∙ laid-push (filled cells first.offset (take first.size octets)) ranges held (drop first.size octets) body left own)

-- ---- every range is within the reach

pub laid-grows : (cells : List (Option ℕ)) (ranges : List Held) (octets : List ℕ)
    → length cells ≤ length (laid cells ranges octets)
unfolding laid
laid-grows cells [] octets = omega arith
laid-grows cells (first ∷ ranges) octets =
    omega (
      arith,
      laid-grows (filled cells first.offset (take first.size octets)) ranges (drop first.size octets),
      length-filled cells first.offset (take first.size octets),
    )

-- the last of some ranges
pub last-within : (ranges : List Held) (held : Held) (octets body : List ℕ)
    → size_of ranges ≡ length octets → held.size ≡ length body
    → held.offset + length body ≤ length (laid [] (ranges ++ held ∷ []) (octets ++ body))
last-within ranges held octets body size own =
    omega (arith, ap length (laid-push [] ranges held octets body size own), length-filled (laid [] ranges octets) held.offset body)

-- ---- the front ranges

-- the first ranges, and the octets that they have
pub record Front (ranges : List Held) (octets : List ℕ) (at : ℕ) (left : List ℕ) : Type 0 where
  pub low : at ≤ length ranges
  pub size : size_of (take at ranges) ≡ length left
  pub rest : List ℕ
  pub whole : octets ≡ left ++ rest

pub front-all : (ranges : List Held) (octets : List ℕ) (at : ℕ) → at ≡ length ranges → size_of ranges ≡ length octets
    → Front ranges octets at octets
front-all ranges octets at all size = record {
  low = omega arith;
  size = rw (take_all at ranges (omega arith)) size;
  rest = [];
  whole = sym (append-nil octets);
}

pub front-last : (ranges : List Held) (at : ℕ) (held : Held) → 0 < at → at ≤ length ranges → held ≡ get_or ranges (at - 1) held
    → take at ranges ≡ take (at - 1) ranges ++ held ∷ []
front-last ranges at held some low is =
    let next : at - 1 + 1 ≡ at = omega arith in
    let more = take_more ranges (at - 1) held (omega arith) in
    rw (next, ← is) at more

pub front-size : (ranges : List Held) (octets : List ℕ) (at : ℕ) (left : List ℕ) (held : Held)
    → Front ranges octets at left → 0 < at → held ≡ get_or ranges (at - 1) held
    → size_of (take (at - 1) ranges) + held.size ≡ length left
front-size ranges octets at left held front some is =
    sym (size_of-push (take (at - 1) ranges) held)
    ∙ (ap size_of (sym (front-last ranges at held some front.low is)) ∙ front.size)

pub front-fewer : (ranges : List Held) (octets : List ℕ) (at : ℕ) (left earlier own : List ℕ) (held : Held)
    → Front ranges octets at left → 0 < at → held ≡ get_or ranges (at - 1) held
    → earlier ≡ take (length left - held.size) left → own ≡ drop (length left - held.size) left
    → Front ranges octets (at - 1) earlier
front-fewer ranges octets at left earlier own held front some is first second =
    let size = front-size ranges octets at left held front some is in
    record {
      low = omega (arith, front.low);
      size = omega (arith, size, ap length first, length-take-le (length left - held.size) left (omega arith));
      rest = own ++ front.rest;
      whole = rw (front.whole, first, second, ← append_assoc (take (length left - held.size) left) (drop (length left - held.size) left) front.rest, take-append-drop (length left - held.size) left) refl;
    }

-- ---- laying octets into a buffer

-- octets over those of a buffer
abbrev pub laid_into : List ℕ → ℕ → List ℕ → List ℕ
laid_into buffer offset body = take offset buffer ++ (body ++ drop (offset + length body) buffer)

pub length-laid_into : (buffer : List ℕ) (offset : ℕ) (body : List ℕ) → offset + length body ≤ length buffer
    → length (laid_into buffer offset body) ≡ length buffer
length-laid_into buffer offset body fits =
    omega (
      arith,
      length-append (take offset buffer) (body ++ drop (offset + length body) buffer),
      length-append body (drop (offset + length body) buffer),
      length-drop (offset + length body) buffer,
      length-take-le offset buffer (omega arith),
    )

laid_into-place : (buffer : List ℕ) (offset : ℕ) (body : List ℕ) (k : ℕ) → offset + length body ≤ length buffer
    → or_else (octet_in offset body k) (Some (get_or buffer k 0)) ≡ Some (get_or (laid_into buffer offset body) k 0)
laid_into-place buffer offset body k fits = ⊎_elim before (λ from. ⊎_elim (inside from) after (cases_lt k (offset + length body))) (cases_lt k offset)
  where
    front : length (take offset buffer) ≡ offset
    front = length-take-le offset buffer (omega arith)

    before : k < offset → or_else (octet_in offset body k) (Some (get_or buffer k 0)) ≡ Some (get_or (laid_into buffer offset body) k 0)
    before low =
        rw (octet_in-before_first offset body k low, get_or_append_left (take offset buffer) (body ++ drop (offset + length body) buffer) 0 k (omega (arith, front)), get_or-take offset buffer k 0 low) refl

    inside : offset ≤ k → k < offset + length body → or_else (octet_in offset body k) (Some (get_or buffer k 0)) ≡ Some (get_or (laid_into buffer offset body) k 0)
    inside from low =
        rw (
          octet_in-inside offset body k from low,
          get_or-append_right (take offset buffer) (body ++ drop (offset + length body) buffer) offset k 0 front from,
          get_or_append_left body (drop (offset + length body) buffer) 0 (k - offset) (omega arith),
        ) refl

    after : offset + length body ≤ k → or_else (octet_in offset body k) (Some (get_or buffer k 0)) ≡ Some (get_or (laid_into buffer offset body) k 0)
    after from =
        let place : offset + length body + (k - offset - length body) ≡ k = omega arith in
        rw (
          octet_in-past offset body k from,
          get_or-append_right (take offset buffer) (body ++ drop (offset + length body) buffer) offset k 0 front (omega arith),
          get_or-append_right body (drop (offset + length body) buffer) (length body) (k - offset) 0 refl (omega arith),
          get_or-drop (offset + length body) buffer (k - offset - length body) 0,
          place,
        ) refl

pub laying-step : (ranges : List Held) (at : ℕ) (held : Held) (left earlier own buffer now : List ℕ) (all : List (Option ℕ))
    → 0 < at → at ≤ length ranges → held ≡ get_or ranges (at - 1) held
    → left ≡ earlier ++ own → size_of (take (at - 1) ranges) ≡ length earlier → held.size ≡ length own
    → held.offset + length own ≤ length buffer
    → now ≡ laid_into buffer held.offset own
    → StandsAfter (laid [] (take at ranges) left) buffer all
    → StandsAfter (laid [] (take (at - 1) ranges) earlier) now all
laying-step ranges at held left earlier own buffer now all some within is parts size own_size fits laid_now stands = record {
  each = λ k low.
      let inside : k < length buffer = omega (arith, ap length laid_now, length-laid_into buffer held.offset own fits) in
      rw (
        laid_now,
        ← laid_into-place buffer held.offset own k fits,
        ← or_else-assoc (cell (laid [] (take (at - 1) ranges) earlier) k) (octet_in held.offset own k) (Some (get_or buffer k 0)),
        ← cell-filled (laid [] (take (at - 1) ranges) earlier) held.offset own k,
        ← laid-push [] (take (at - 1) ranges) held earlier own size own_size,
        ← front-last ranges at held some within is,
        ← parts,
      )
      (stands.each k inside);
}

-- before any is laid, after all of them stands 0
pub stands-start : (cells : List (Option ℕ)) (buffer : List ℕ) → buffer ≡ replicate (length buffer) 0
    → StandsAfter cells buffer cells
stands-start cells buffer zeros = record {
  each = λ k low.
      let octet : get_or buffer k 0 ≡ 0 = ap (λ (b : List ℕ). get_or b k 0) zeros ∙ get_or-replicate (length buffer) k 0 0 low in
      rw octet refl;
}

-- ---- what is kept, with one piece more

pub log-with : (ranges : List Held) (octets : List ℕ) (reach : ℕ) (held : Held) (body : List ℕ)
    → IsLog ranges octets reach → held.size ≡ length body
    → IsLog (ranges ++ held ∷ []) (octets ++ body) (max reach (held.offset + length body))
log-with ranges octets reach held body log own = record {
  size = omega (arith, size_of-push ranges held, log.size, length-append octets body);
  reaches = omega (
    arith,
    log.reaches,
    ap length (laid-push [] ranges held octets body log.size own),
    length-filled (laid [] ranges octets) held.offset body,
  );
}

-- the cells of all ranges are those of the first ones, with the others laid over them
laid-append : (cells : List (Option ℕ)) (xs ys : List Held) (octets rest : List ℕ) → size_of xs ≡ length octets
    → laid cells (xs ++ ys) (octets ++ rest) ≡ laid (laid cells xs octets) ys rest
unfolding laid
laid-append cells [] ys [] rest size = refl
laid-append cells [] ys (o ∷ octets) rest size = absurd (omega arith)
laid-append cells (first ∷ xs) ys octets rest size =
    let low : first.size ≤ length octets = omega (arith, size) in
    let left : size_of xs ≡ length (drop first.size octets) = omega (arith, size, length-drop first.size octets) in
    ap (λ (x : List ℕ). laid (filled cells first.offset x) (xs ++ ys) (drop first.size (octets ++ rest)))
    (take-append-le first.size octets rest low)
    ∙ (ap (λ (x : List ℕ). laid (filled cells first.offset (take first.size octets)) (xs ++ ys) x)
    (drop-append-le first.size octets rest low)
    ∙ laid-append (filled cells first.offset (take first.size octets)) xs ys (drop first.size octets) rest left)

laid-front : (ranges : List Held) (octets : List ℕ) (at : ℕ) (left : List ℕ) (front : Front ranges octets at left)
    → laid [] ranges octets ≡ laid (laid [] (take at ranges) left) (drop at ranges) front.rest
laid-front ranges octets at left front =
    let split = laid-append [] (take at ranges) (drop at ranges) left front.rest front.size in
    rw (take-append-drop at ranges, ← front.whole) at split

-- an element is itself, whatever stands for one past the end
pub held-same : (ranges : List Held) (i : ℕ) (d : Held) → i < length ranges
    → get_or ranges i d ≡ get_or ranges i (get_or ranges i d)
held-same [] i d low = absurd (omega arith)
held-same (first ∷ ranges) zero d low = refl
held-same (first ∷ ranges) (suc i) d low = held-same ranges i d (omega arith)

-- the last of the front ranges is within the reach
pub front-within : (ranges : List Held) (octets : List ℕ) (at : ℕ) (left own : List ℕ) (held : Held)
    → Front ranges octets at left → 0 < at → held ≡ get_or ranges (at - 1) held
    → length own ≡ length left - (length left - held.size)
    → held.offset + length own ≤ length (laid [] ranges octets)
front-within ranges octets at left own held front some is size =
    omega (
      arith,
      own_size,
      ap length (laid-front ranges octets at left front),
      laid-grows (laid [] (take at ranges) left) (drop at ranges) front.rest,
      last_length,
    )
  where
    whole_size : size_of (take (at - 1) ranges) + held.size ≡ length left
    whole_size = front-size ranges octets at left held front some is

    own_size : length own ≡ held.size
    own_size = omega (arith, size, whole_size)

    last_length : held.offset + held.size ≤ length (laid [] (take at ranges) left)
    last_length =
        let within = last-within (take (at - 1) ranges) held (take (length left - held.size) left) (drop (length left - held.size) left)
        (omega (arith, whole_size, length-take-le (length left - held.size) left (omega arith)))
        (omega (arith, whole_size, length-drop (length left - held.size) left)) in
        let same = rw (← front-last ranges at held some front.low is, take-append-drop (length left - held.size) left) at within in
        omega (arith, same, whole_size, length-drop (length left - held.size) left)

pub stands-end : (ranges : List Held) (at : ℕ) (left buffer : List ℕ) (all : List (Option ℕ)) → at ≡ 0
    → StandsAfter (laid [] (take at ranges) left) buffer all → StandsAfter [] buffer all
unfolding laid
stands-end ranges at left buffer all none stands = rw none at stands
