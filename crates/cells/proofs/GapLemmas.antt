-- A piece whose octets are taken gap by gap.

use Rattle.std.proofs.Common.{◌≡◌, ℕ, suc, ◌+◌, ◌-◌, ◌<◌, ◌≤◌, max, All, Bool, true, false, List, [], ◌∷◌, length, take, drop, slice_range, Option, None, Some, is_some, refl, sym, ◌∙◌, ap, arith, ⊎_elim, length-drop}
use Rattle.std.proofs.lemmas.Bool.{cases_lt, lt-ltb, le-ltb}
use Rattle.std.proofs.lemmas.List.{length-take, length-take-le, get_or-take, get_or-drop, take_all, get_or_past}
use Rattle.spans.specs.declared.range.Run.{Run}
use Rattle.spans.specs.Laws.{IsMaximal}
use Rattle.spans.specs.Places.{runs_reaching}
use Rattle.spans.proofs.Reaching.{reaching-maximal}
use Rattle.cells.specs.Cells.{cell, octet_in, or_else, filled}
use Rattle.cells.specs.Covers.{Covers}
use Rattle.cells.specs.Gaps.{filled_gap}
use Rattle.cells.proofs.CellLemmas.{cell-filled, length-filled, cells-same, octet_in-inside, octet_in-before_first, octet_in-past, or_else-none}

pub or_else-assoc : {X : Type 0} (a b c : Option X) → or_else (or_else a b) c ≡ or_else a (or_else b c)
or_else-assoc None b c = refl
or_else-assoc (Some x) b c = refl

-- a piece's octets up to one place, and from there up to another
pub octet_in-join : (offset : ℕ) (body : List ℕ) (n m k : ℕ) → n ≤ m → m ≤ length body
    → or_else (octet_in offset (take n body) k) (octet_in (offset + n) (slice_range body n m) k)
    ≡ octet_in offset (take m body) k
octet_in-join offset body n m k low high =
    ⊎_elim before (λ from. ⊎_elim (first from) (λ past. ⊎_elim (second past) after (cases_lt k (offset + m))) (cases_lt k (offset + n)))
    (cases_lt k offset)
  where
    front : length (take n body) ≡ n
    front = length-take-le n body (omega (arith, low, high))

    both : length (take m body) ≡ m
    both = length-take-le m body high

    later : length (slice_range body n m) ≡ m - n
    later = length-take-le (m - n) (drop n body) (omega (arith, high, length-drop n body))

    before : k < offset → or_else (octet_in offset (take n body) k) (octet_in (offset + n) (slice_range body n m) k) ≡ octet_in offset (take m body) k
    before below = rw (octet_in-before_first offset (take n body) k below, octet_in-before_first (offset + n) (slice_range body n m) k (omega arith), octet_in-before_first offset (take m body) k below) refl

    first : offset ≤ k → k < offset + n → or_else (octet_in offset (take n body) k) (octet_in (offset + n) (slice_range body n m) k) ≡ octet_in offset (take m body) k
    first from below = rw (octet_in-inside offset (take n body) k from (omega (arith, front)), octet_in-inside offset (take m body) k from (omega (arith, both, low)), get_or-take n body (k - offset) 0 (omega arith), get_or-take m body (k - offset) 0 (omega (arith, low))) refl

    second : offset + n ≤ k → k < offset + m → or_else (octet_in offset (take n body) k) (octet_in (offset + n) (slice_range body n m) k) ≡ octet_in offset (take m body) k
    second from below =
        let place : n + (k - (offset + n)) ≡ k - offset = omega arith in
        rw (octet_in-past offset (take n body) k (omega (arith, front)), octet_in-inside (offset + n) (slice_range body n m) k from (omega (arith, later)), octet_in-inside offset (take m body) k (omega arith) (omega (arith, both)), get_or-take m body (k - offset) 0 (omega arith), get_or-take (m - n) (drop n body) (k - (offset + n)) 0 (omega arith), get_or-drop n body (k - (offset + n)) 0, place) refl

    after : offset + m ≤ k → or_else (octet_in offset (take n body) k) (octet_in (offset + n) (slice_range body n m) k) ≡ octet_in offset (take m body) k
    after past = rw (octet_in-past offset (take n body) k (omega (arith, front, low)), octet_in-past (offset + n) (slice_range body n m) k (omega (arith, later, low)), octet_in-past offset (take m body) k (omega (arith, both))) refl

-- the octet of a place below both, and past both
take-length-le : (n : ℕ) (body : List ℕ) → length (take n body) ≤ n
take-length-le n body = omega (arith, length-take n body)

pub same_front : (offset : ℕ) (body : List ℕ) (n m k : ℕ) → k < offset + n → n ≤ m
    → octet_in offset (take n body) k ≡ octet_in offset (take m body) k
same_front offset body n m k below low =
    ⊎_elim (λ before. rw (octet_in-before_first offset (take n body) k before, octet_in-before_first offset (take m body) k before) refl)
    (λ from. ⊎_elim (inside from) (outside from) (cases_lt k (offset + length body)))
    (cases_lt k offset)
  where
    inside : offset ≤ k → k < offset + length body → octet_in offset (take n body) k ≡ octet_in offset (take m body) k
    inside from short = rw (octet_in-inside offset (take n body) k from (omega (arith, length-take n body)), octet_in-inside offset (take m body) k from (omega (arith, length-take m body)), get_or-take n body (k - offset) 0 (omega arith), get_or-take m body (k - offset) 0 (omega (arith, low))) refl

    outside : offset ≤ k → offset + length body ≤ k → octet_in offset (take n body) k ≡ octet_in offset (take m body) k
    outside from long = rw (octet_in-past offset (take n body) k (omega (arith, length-take n body)), octet_in-past offset (take m body) k (omega (arith, length-take m body))) refl

pub past_both : (offset : ℕ) (body : List ℕ) (n m k : ℕ) → offset + n ≤ k → offset + m ≤ k
    → octet_in offset (take n body) k ≡ octet_in offset (take m body) k
past_both offset body n m k low high = rw (octet_in-past offset (take n body) k (omega (arith, length-take n body)), octet_in-past offset (take m body) k (omega (arith, length-take m body))) refl

-- the octets of a piece up to a place are taken
pub record IsUpTo (cells now : List (Option ℕ)) (offset : ℕ) (body : List ℕ) (at : ℕ) : Type 0 where
  pub from : offset ≤ at
  pub each : (k : ℕ) → cell now k ≡ or_else (cell cells k) (octet_in offset (take (at - offset) body) k)
  pub size : max (length now) (offset + length body) ≡ max (length cells) (offset + length body)
  pub reached : offset < at → at ≤ length now
  pub grown : length cells ≤ length now

pub up_to-start : (cells : List (Option ℕ)) (offset : ℕ) (body : List ℕ) → IsUpTo cells cells offset body offset
up_to-start cells offset body = record {
  from = omega arith;
  each = λ k.
      let none : offset - offset ≡ 0 = omega arith in
      rw (none, nothing k, or_else-none (cell cells k)) refl;
  size = refl;
  reached = λ low. absurd (omega arith);
  grown = omega arith;
}
  where
    nothing : (k : ℕ) → octet_in offset [] k ≡ None
    nothing k = ⊎_elim (λ below. octet_in-before_first offset [] k below) (λ past. octet_in-past offset [] k (omega arith)) (cases_lt k offset)

-- a gap is taken
pub up_to-gap : (cells log now : List (Option ℕ)) (offset : ℕ) (body : List ℕ) (at to : ℕ)
    → IsUpTo cells log offset body at → to ≤ offset + length body
    → now ≡ filled_gap log offset body at to → IsUpTo cells now offset body (max at to)
unfolding filled_gap
up_to-gap cells log now offset body at to so_far high is = ⊎_elim some none (cases_lt at to)
  where
    none : to ≤ at → IsUpTo cells now offset body (max at to)
    none past =
        let same : now ≡ log = rw (le-ltb at to past) at is in
        let place : max at to ≡ at = omega arith in
        rw (same, place) so_far

    some : at < to → IsUpTo cells now offset body (max at to)
    some low =
        let same : now ≡ filled log at (slice_range body (at - offset) (to - offset)) = rw (lt-ltb at to low) at is in
        let place : max at to ≡ to = omega arith in
        let gap : length (slice_range body (at - offset) (to - offset)) ≡ to - at =
        length-take-le (to - offset - (at - offset)) (drop (at - offset) body) (omega (arith, so_far.from, low, high, length-drop (at - offset) body))
        ∙ omega (arith, so_far.from, low) in
        let size : length now ≡ max (length log) to = ap length same ∙ (length-filled log at (slice_range body (at - offset) (to - offset)) ∙ omega (arith, gap, low)) in
        rw place (record {
          from = omega (arith, so_far.from, low);
          each = λ k.
              let start : offset + (at - offset) ≡ at = omega (arith, so_far.from) in
              let join = octet_in-join offset body (at - offset) (to - offset) k (omega (arith, low)) (omega (arith, high)) in
              rw (same, cell-filled log at (slice_range body (at - offset) (to - offset)) k, so_far.each k, or_else-assoc, ← (rw start at join)) refl;
          size = omega (arith, size, so_far.size, high);
          reached = λ _. omega (arith, size);
          grown = omega (arith, size, so_far.grown);
        })

-- places that have octets are passed over
pub up_to-skip : (cells log : List (Option ℕ)) (offset : ℕ) (body : List ℕ) (at from to : ℕ)
    → IsUpTo cells log offset body at → from ≤ at
    → ((k : ℕ) → from ≤ k → k < to → is_some (cell cells k) ≡ true)
    → IsUpTo cells log offset body (max at to)
up_to-skip cells log offset body at from to so_far low has = ⊎_elim some none (cases_lt at to)
  where
    none : to ≤ at → IsUpTo cells log offset body (max at to)
    none past = let place : max at to ≡ at = omega arith in rw place so_far

    reaches : at < to → to ≤ length cells
    reaches below = ⊎_elim (λ short. absurd (missing short)) (λ long. long) (cases_lt (length cells) to)
      where
        missing : length cells < to → ⊥
        missing short =
            let one : is_some (cell cells (to - 1)) ≡ true = has (to - 1) (omega arith) (omega arith) in
            let none : cell cells (to - 1) ≡ None = get_or_past cells (to - 1) None (omega arith) in
            let said : is_some (cell cells (to - 1)) ≡ false = ap is_some none in
            cc

    kept : (k : ℕ) → at ≤ k → k < to → (c : Option ℕ) → cell cells k ≡ c → (o : Option ℕ) → or_else (cell cells k) o ≡ cell cells k
    kept k from_there below None is o =
        let one : is_some (cell cells k) ≡ true = has k (omega arith) below in
        let none : is_some (cell cells k) ≡ false = ap is_some is in absurd (cc)
    kept k from_there below (Some x) is o = rw is refl

    some : at < to → IsUpTo cells log offset body (max at to)
    some below =
        let place : max at to ≡ to = omega arith in
        rw place (record {
          from = omega (arith, so_far.from);
          each = λ k. ⊎_elim (earlier k) (λ past. ⊎_elim (within k past) (later k) (cases_lt k to)) (cases_lt k at);
          size = so_far.size;
          reached = λ _. omega (arith, reaches below, so_far.grown);
          grown = so_far.grown;
        })
      where
        earlier : (k : ℕ) → k < at → cell log k ≡ or_else (cell cells k) (octet_in offset (take (to - offset) body) k)
        earlier k short = so_far.each k ∙ ap (λ o. or_else (cell cells k) o) (cut k short)
          where
            cut : (k : ℕ) → k < at → octet_in offset (take (at - offset) body) k ≡ octet_in offset (take (to - offset) body) k
            cut k short = same_front offset body (at - offset) (to - offset) k (omega (arith, so_far.from)) (omega (arith, below))

        within : (k : ℕ) → at ≤ k → k < to → cell log k ≡ or_else (cell cells k) (octet_in offset (take (to - offset) body) k)
        within k past short =
            so_far.each k ∙ (kept k past short (cell cells k) refl (octet_in offset (take (at - offset) body) k)
            ∙ sym (kept k past short (cell cells k) refl (octet_in offset (take (to - offset) body) k)))

        later : (k : ℕ) → to ≤ k → cell log k ≡ or_else (cell cells k) (octet_in offset (take (to - offset) body) k)
        later k past = so_far.each k ∙ ap (λ o. or_else (cell cells k) o) (past_both offset body (at - offset) (to - offset) k (omega (arith, so_far.from)) (omega (arith, so_far.from)))

-- all of them are
pub up_to-end : (cells now : List (Option ℕ)) (offset : ℕ) (body : List ℕ) (at : ℕ)
    → IsUpTo cells now offset body at → offset + length body ≤ at → offset < at → now ≡ filled cells offset body
up_to-end cells now offset body at so_far past some =
    cells-same now (filled cells offset body)
    (omega (arith, so_far.size, so_far.reached some, length-filled cells offset body))
    (λ k. rw (so_far.each k, take_all (at - offset) body (omega (arith, past)), cell-filled cells offset body k) refl)

-- a run of the filled places is passed over, once the gap before it is taken
up_to-run : {most : ℕ} (cells log now : List (Option ℕ)) (places : List Bool) (offset : ℕ) (body : List ℕ) (at : ℕ) (run : Run)
    → Covers most places cells → IsMaximal run places → run.from ≤ offset + length body
    → IsUpTo cells log offset body at → now ≡ filled_gap log offset body at run.from
    → IsUpTo cells now offset body (max at run.to)
up_to-run cells log now places offset body at run covers maximal fits so_far taken =
    let gap = up_to-gap cells log now offset body at run.from so_far fits taken in
    let skip = up_to-skip cells now offset body (max at run.from) run.from run.to gap (omega arith)
    (λ k low high. sym (covers.each k) ∙ maximal.covered k low high) in
    let place : max (max at run.from) run.to ≡ max at run.to = omega (arith, maximal.some) in
    rw place at skip

-- the octets of a piece up to a place are taken, and the runs that are left are maximal
pub record IsFilling (cells now : List (Option ℕ)) (places : List Bool) (offset : ℕ) (body : List ℕ) (at : ℕ) (left : List Run) : Type 0 where
  pub so_far : IsUpTo cells now offset body at
  pub maximal : All (λ run. IsMaximal run places) left

pub filling-start : (cells : List (Option ℕ)) (places : List Bool) (offset : ℕ) (body : List ℕ)
    → IsFilling cells cells places offset body offset (runs_reaching offset places)
filling-start cells places offset body = record {
  so_far = up_to-start cells offset body;
  maximal = reaching-maximal offset places;
}

pub filling-more : {most : ℕ} (cells log now : List (Option ℕ)) (places : List Bool) (offset : ℕ) (body : List ℕ) (at : ℕ) (run : Run) (left : List Run)
    → Covers most places cells → run.from ≤ offset + length body → now ≡ filled_gap log offset body at run.from
    → IsFilling cells log places offset body at (run ∷ left) → IsFilling cells now places offset body (max at run.to) left
filling-more cells log now places offset body at run left covers fits taken filling = record {
  so_far = up_to-run cells log now places offset body at run covers (filling.maximal 0 run (omega arith)) fits filling.so_far taken;
  maximal = λ k d below. filling.maximal (suc k) d (omega arith);
}
