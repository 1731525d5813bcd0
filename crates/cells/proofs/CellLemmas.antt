-- Cells, and the same by places.
use Rattle.std.proofs.Common.{◌≡◌, ℕ, zero, suc, ◌+◌, ◌-◌, ◌<◌, ◌≤◌, max, true, false, ◌&&◌, List, [], ◌∷◌, length, get_or, Option, None, Some, is_some, refl, sym, ap, arith, nat_lt, nat_le}
use Rattle.std.proofs.lemmas.List.{ext_get_or}
use Rattle.std.proofs.lemmas.Bool.Decides.{nat_tests}
use Rattle.std.specs.Option.{option_map}
use Rattle.cells.specs.Cells.{cell, octet_in, or_else, laid_over, filled, all_octets}

-- ---- what a piece has for a place

pub octet_in-next : (offset k : ℕ) (body : List ℕ) → octet_in (suc offset) body (suc k) ≡ octet_in offset body k
octet_in-next offset k body =
    let low : nat_le (suc offset) (suc k) ≡ nat_le offset k = grind (arith, nat_tests) in
    let high : nat_lt (suc k) (suc offset + length body) ≡ nat_lt k (offset + length body) = grind (arith, nat_tests) in
    let place : suc k - suc offset ≡ k - offset = omega arith in
    rw (low, high, place) refl

pub octet_in-before : (offset : ℕ) (body : List ℕ) → octet_in (suc offset) body 0 ≡ None
octet_in-before offset body =
    let low : nat_le (suc offset) 0 ≡ false = grind (arith, nat_tests) in
    rw low refl

pub octet_in-none : (offset k : ℕ) → octet_in offset [] k ≡ None
octet_in-none offset k =
    let outside : (nat_le offset k && nat_lt k (offset + 0)) ≡ false = grind (arith, nat_tests) in
    rw outside refl

pub octet_in-first : (octet : ℕ) (body : List ℕ) → octet_in 0 (octet ∷ body) 0 ≡ Some octet
octet_in-first octet body =
    let inside : (nat_le 0 0 && nat_lt 0 (0 + length (octet ∷ body))) ≡ true = grind (arith, nat_tests) in
    rw inside refl

pub octet_in-later : (octet k : ℕ) (body : List ℕ) → octet_in 0 (octet ∷ body) (suc k) ≡ octet_in 0 body k
octet_in-later octet k body =
    let low : nat_le 0 (suc k) ≡ true = grind (arith, nat_tests) in
    let also_low : nat_le 0 k ≡ true = grind (arith, nat_tests) in
    let high : nat_lt (suc k) (0 + length (octet ∷ body)) ≡ nat_lt k (0 + length body) = grind (arith, nat_tests) in
    let place : suc k - 0 ≡ suc k = omega arith in
    let also : k - 0 ≡ k = omega arith in
    rw (low, also_low, high, place, also) refl

pub or_else-none : {X : Type 0} (first : Option X) → or_else first None ≡ first
or_else-none None = refl
or_else-none (Some x) = refl

-- ---- cells once octets are laid over them

pub cell-laid_over : (cells : List (Option ℕ)) (body : List ℕ) (k : ℕ)
    → cell (laid_over cells body) k ≡ or_else (cell cells k) (octet_in 0 body k)
cell-laid_over cells [] k = rw octet_in-none (sym (or_else-none (cell cells k)))
cell-laid_over [] (octet ∷ body) zero = rw octet_in-first refl
cell-laid_over [] (octet ∷ body) (suc k) = rw octet_in-later (cell-laid_over [] body k)
cell-laid_over (None ∷ cells) (octet ∷ body) zero = rw octet_in-first refl
cell-laid_over (None ∷ cells) (octet ∷ body) (suc k) = rw octet_in-later (cell-laid_over cells body k)
cell-laid_over (Some first ∷ cells) (octet ∷ body) zero = refl
cell-laid_over (Some first ∷ cells) (octet ∷ body) (suc k) = rw octet_in-later (cell-laid_over cells body k)

pub cell-filled : (cells : List (Option ℕ)) (offset : ℕ) (body : List ℕ) (k : ℕ)
    → cell (filled cells offset body) k ≡ or_else (cell cells k) (octet_in offset body k)
unfolding filled
cell-filled cells zero body k = cell-laid_over cells body k
cell-filled [] (suc offset) body zero = rw octet_in-before refl
cell-filled [] (suc offset) body (suc k) = rw octet_in-next (cell-filled [] offset body k)
cell-filled (c ∷ cells) (suc offset) body zero = rw octet_in-before (sym (or_else-none c))
cell-filled (c ∷ cells) (suc offset) body (suc k) = rw octet_in-next (cell-filled cells offset body k)

pub length-laid_over : (cells : List (Option ℕ)) (body : List ℕ)
    → length (laid_over cells body) ≡ max (length cells) (length body)
length-laid_over cells [] = omega arith
length-laid_over [] (octet ∷ body) = omega (arith, length-laid_over [] body)
length-laid_over (None ∷ cells) (octet ∷ body) = omega (arith, length-laid_over cells body)
length-laid_over (Some first ∷ cells) (octet ∷ body) = omega (arith, length-laid_over cells body)

pub length-filled : (cells : List (Option ℕ)) (offset : ℕ) (body : List ℕ)
    → length (filled cells offset body) ≡ max (length cells) (offset + length body)
unfolding filled
length-filled cells zero body = omega (arith, length-laid_over cells body)
length-filled [] (suc offset) body = omega (arith, length-filled [] offset body)
length-filled (c ∷ cells) (suc offset) body = omega (arith, length-filled cells offset body)

-- ---- all octets

-- the octets of some cells, taken apart after the first
record Taken (first : ℕ) (rest : Option (List ℕ)) (body : List ℕ) : Type 0 where
  tail : List ℕ
  later : rest ≡ Some tail
  whole : body ≡ first ∷ tail

taken_apart : (first : ℕ) (rest : Option (List ℕ)) (body : List ℕ)
    → option_map (λ tail. first ∷ tail) rest ≡ Some body → Taken first rest body
taken_apart first None body is = absurd (cc)
taken_apart first (Some tail) body is = record { tail = tail; later = refl; whole = cc }

pub all_octets-length : (cells : List (Option ℕ)) (body : List ℕ) → all_octets cells ≡ Some body → length body ≡ length cells
unfolding all_octets
all_octets-length [] body is = let empty : body ≡ [] = cc in ap length empty
all_octets-length (None ∷ cells) body is = absurd (cc)
all_octets-length (Some first ∷ cells) body is =
    let parts = taken_apart first (all_octets cells) body is in
    let rest = all_octets-length cells parts.tail parts.later in
    rw parts.whole (omega arith)

pub all_octets-cell : (cells : List (Option ℕ)) (body : List ℕ) → all_octets cells ≡ Some body
    → (k : ℕ) → k < length body → cell cells k ≡ Some (get_or body k 0)
unfolding all_octets
all_octets-cell [] body is k inside = let empty : body ≡ [] = cc in absurd (omega (arith, ap length empty))
all_octets-cell (None ∷ cells) body is k inside = absurd (cc)
all_octets-cell (Some first ∷ cells) body is zero inside =
    let parts = taken_apart first (all_octets cells) body is in
    rw parts.whole refl
all_octets-cell (Some first ∷ cells) body is (suc k) inside =
    let parts = taken_apart first (all_octets cells) body is in
    let deeper : k < length parts.tail = omega (arith, ap length parts.whole) in
    rw parts.whole (all_octets-cell cells parts.tail parts.later k deeper)

pub all_octets-only : (cells : List (Option ℕ)) (body : List ℕ) → length cells ≡ length body
    → ((k : ℕ) → k < length body → cell cells k ≡ Some (get_or body k 0)) → all_octets cells ≡ Some body
unfolding all_octets
all_octets-only [] [] size has = refl
all_octets-only [] (octet ∷ body) size has = absurd (omega arith)
all_octets-only (c ∷ cells) [] size has = absurd (omega arith)
all_octets-only (None ∷ cells) (octet ∷ body) size has = let missing = has zero (omega arith) in absurd (cc)
all_octets-only (Some first ∷ cells) (octet ∷ body) size has =
    let here : Some first ≡ Some octet = has zero (omega arith) in
    let rest = all_octets-only cells body (omega arith) (λ k low. has (suc k) (omega arith)) in
    rw rest (ap (λ (o : Option ℕ). option_map (λ x. x ∷ body) o) here)

pub all_octets-some : (cells : List (Option ℕ)) → ((k : ℕ) → k < length cells → is_some (cell cells k) ≡ true)
    → is_some (all_octets cells) ≡ true
unfolding all_octets
all_octets-some [] has = refl
all_octets-some (None ∷ cells) has = has zero (omega arith)
all_octets-some (Some first ∷ cells) has =
    some_next first (all_octets cells) (all_octets-some cells (λ k low. has (suc k) (omega arith)))
  where
    some_next : (first : ℕ) (rest : Option (List ℕ)) → is_some rest ≡ true → is_some (option_map (λ body. first ∷ body) rest) ≡ true
    some_next first None has_rest = has_rest
    some_next first (Some body) has_rest = refl

-- ---- the same cells

pub cells-same : (xs ys : List (Option ℕ)) → length xs ≡ length ys
    → ((k : ℕ) → cell xs k ≡ cell ys k) → xs ≡ ys
cells-same xs ys size each = ext_get_or None xs ys size (λ k low. each k)

-- ---- the octet that a piece has, where it has one

pub octet_in-inside : (offset : ℕ) (body : List ℕ) (k : ℕ) → offset ≤ k → k < offset + length body
    → octet_in offset body k ≡ Some (get_or body (k - offset) 0)
octet_in-inside offset body k from to =
    let inside : (nat_le offset k && nat_lt k (offset + length body)) ≡ true = grind (arith, nat_tests) in
    rw inside refl

pub octet_in-before_first : (offset : ℕ) (body : List ℕ) (k : ℕ) → k < offset
    → octet_in offset body k ≡ None
octet_in-before_first offset body k below =
    let outside : (nat_le offset k && nat_lt k (offset + length body)) ≡ false = grind (arith, nat_tests) in
    rw outside refl

pub octet_in-past : (offset : ℕ) (body : List ℕ) (k : ℕ) → offset + length body ≤ k
    → octet_in offset body k ≡ None
octet_in-past offset body k past =
    let outside : (nat_le offset k && nat_lt k (offset + length body)) ≡ false = grind (arith, nat_tests) in
    rw outside refl
