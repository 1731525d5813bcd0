-- Datagrams that are put or dropped, one after the other.

use Rattle.std.proofs.Common.{◌≡◌, ℕ, ◌+◌, ◌-◌, ◌^◌, ◌≤◌, min, Bool, true, false, ◌&&◌, nat_le, if◌then◌else◌, List, [], ◌∷◌, ◌++◌, length, inl, inr, refl, sym, ap, ◌∙◌, arith}
use Rattle.std.specs.List.{sum_by}
use Rattle.std.proofs.lemmas.Bool.{and_parts, leb-true, le-leb, cases_lt, lt-leb}
use Rattle.std.proofs.lemmas.List.Sums.{sum_by-cons}
use Rattle.face_room.specs.declared.bounds.Bounds.{Bounds}
use Rattle.face_room.specs.Bounds.{AreBounds, half}
use Rattle.face_room.specs.Queues.{may_wait, queued_with, puts, queued_after}
use Rattle.face_room.specs.Faces.{total}
use Rattle.face_room.specs.Laws.{QueuesWithin}

-- ---- one more

pub queued-push : (may : ℕ → Bool) (queued : ℕ) (sizes : List ℕ) (size : ℕ) → queued_after may queued (sizes ++ size ∷ [])
    ≡ queued_with may (queued_after may queued sizes) size
unfolding queued_after
queued-push may queued [] size = refl
queued-push may queued (first ∷ sizes) size = queued-push may (queued_with may queued first) sizes size

pub puts-push : (may : ℕ → Bool) (queued : ℕ) (sizes : List ℕ) (size : ℕ) → puts may queued (sizes ++ size ∷ [])
    ≡ puts may queued sizes ++ may (queued_after may queued sizes + size) ∷ []
unfolding puts queued_after
puts-push may queued [] size = refl
puts-push may queued (first ∷ sizes) size =
    ap (λ (rest : List Bool). may (queued + first) ∷ rest) (puts-push may (queued_with may queued first) sizes size)

-- ---- where the same may wait

pub puts-same : (may other : ℕ → Bool) (queued : ℕ) (sizes : List ℕ) → ((n : ℕ) → may n ≡ other n) → puts may queued sizes ≡ puts other queued sizes
unfolding puts
puts-same may other queued [] same = refl
puts-same may other queued (size ∷ sizes) same =
    let rest = puts-same may other (queued_with may queued size) sizes same in
    rw (sym (same (queued + size)))
    (ap (λ (more : List Bool). may (queued + size) ∷ more) rest)

pub queued-same : (may other : ℕ → Bool) (queued : ℕ) (sizes : List ℕ) → ((n : ℕ) → may n ≡ other n) → queued_after may queued sizes ≡ queued_after other queued sizes
unfolding queued_after
queued-same may other queued [] same = refl
queued-same may other queued (size ∷ sizes) same =
    let rest = queued-same may other (queued_with may queued size) sizes same in
    rest ∙ ap (λ (t : Bool). queued_after other (if t then queued + size else queued) sizes) (same (queued + size))

-- what is kept needn't be known past what 64 bits show
pub may-saturated : (b : Bounds) (kept octets : ℕ) → AreBounds b → may_wait b (min kept (2 ^ 64 - 1)) octets ≡ may_wait b kept octets
may-saturated b kept octets are = elim (cases_lt kept (2 ^ 63)) [
  | inl few ↦
      let same : min kept (2 ^ 64 - 1) ≡ kept = omega (arith, few) in
      ap (λ (n : ℕ). may_wait b n octets) same
  | inr many ↦
      let one : nat_le (min kept (2 ^ 64 - 1) + octets) (half b) ≡ false = lt-leb (min kept (2 ^ 64 - 1) + octets) (half b) (omega (arith, many, are.memory)) in
      let two : nat_le (kept + octets) (half b) ≡ false = lt-leb (kept + octets) (half b) (omega (arith, many, are.memory)) in
      rw (one, two) refl
]

-- ---- how many wait

pub length-puts : (may : ℕ → Bool) (queued : ℕ) (sizes : List ℕ) → length (puts may queued sizes) ≡ length sizes
unfolding puts
length-puts may queued [] = refl
length-puts may queued (size ∷ sizes) = let rest = length-puts may (queued_with may queued size) sizes in omega (arith, rest)

-- no more than may, where they were no more
pub queued-within : (may : ℕ → Bool) (most queued : ℕ) (sizes : List ℕ) → ((n : ℕ) → may n ≡ true → n ≤ most) → queued ≤ most
    → queued_after may queued sizes ≤ most
unfolding queued_after
queued-within may most queued [] bound within = within
queued-within may most queued (size ∷ sizes) bound within =
    queued-within may most (queued_with may queued size) sizes bound (by (may (queued + size)) refl)
  where
    by : (t : Bool) → may (queued + size) ≡ t → (if t then queued + size else queued) ≤ most
    by true is = bound (queued + size) is
    by false is = within

-- and no more than all of them
pub queued-most : (may : ℕ → Bool) (queued : ℕ) (sizes : List ℕ) → queued_after may queued sizes ≤ queued + sum_by (λ (n : ℕ). n) sizes
unfolding queued_after
queued-most may queued [] = omega arith
queued-most may queued (size ∷ sizes) =
    let rest = queued-most may (queued_with may queued size) sizes in
    by (may (queued + size)) rest
  where
    by : (t : Bool) → queued_after may (if t then queued + size else queued) sizes ≤ (if t then queued + size else queued) + sum_by (λ (n : ℕ). n) sizes
        → queued_after may (if t then queued + size else queued) sizes ≤ queued + sum_by (λ (n : ℕ). n) (size ∷ sizes)
    by true rest = omega (arith, rest, sum_by-cons (λ (n : ℕ). n) size sizes)
    by false rest = omega (arith, rest, sum_by-cons (λ (n : ℕ). n) size sizes)

-- ---- within both bounds

may-outbox : (b : Bounds) (kept octets : ℕ) → may_wait b kept octets ≡ true → octets ≤ b.outbox
may-outbox b kept octets is = leb-true octets b.outbox (and_parts (nat_le octets b.outbox) (nat_le (kept + octets) (half b)) is).0

may-half : (b : Bounds) (kept octets : ℕ) → may_wait b kept octets ≡ true → kept + octets ≤ half b
may-half b kept octets is = leb-true (kept + octets) (half b) (and_parts (nat_le octets b.outbox) (nat_le (kept + octets) (half b)) is).1

abbrev by_outbox : Bounds → ℕ → Bool
by_outbox b octets = nat_le octets b.outbox

-- one more is, and the others are, whether it is put or not
puts-next : (b : Bounds) (kept queued size : ℕ) (sizes : List ℕ) → nat_le (kept + (queued + size)) (half b) ≡ true
    → puts (may_wait b kept) (queued + size) sizes ≡ puts (by_outbox b) (queued + size) sizes
    → puts (may_wait b kept) queued sizes ≡ puts (by_outbox b) queued sizes
    → puts (may_wait b kept) queued (size ∷ sizes) ≡ puts (by_outbox b) queued (size ∷ sizes)
unfolding puts
puts-next b kept queued size sizes is more fewer = rw is (by (by_outbox b (queued + size)))
  where
    by : (t : Bool) → (t && true) ∷ puts (may_wait b kept) (if t && true then queued + size else queued) sizes
        ≡ t ∷ puts (by_outbox b) (if t then queued + size else queued) sizes
    by true = ap (λ (rest : List Bool). true ∷ rest) more
    by false = ap (λ (rest : List Bool). false ∷ rest) fewer

-- what waits and what comes are within half of the memory
puts-alone : (b : Bounds) (kept queued : ℕ) (sizes : List ℕ) → kept + (queued + total sizes) ≤ half b → puts (may_wait b kept) queued sizes ≡ puts (by_outbox b) queued sizes
unfolding puts
puts-alone b kept queued [] few = refl
puts-alone b kept queued (size ∷ sizes) few =
    let all = sum_by-cons (λ (n : ℕ). n) size sizes in
    puts-next b kept queued size sizes (le-leb (kept + (queued + size)) (half b) (omega (arith, few, all)))
    (puts-alone b kept (queued + size) sizes (omega (arith, few, all)))
    (puts-alone b kept queued sizes (omega (arith, few, all)))

pub queues_within : QueuesWithin
queues_within b kept queued sizes = record {
  each = length-puts (may_wait b kept) queued sizes;
  waits = λ few. queued-within (may_wait b kept) b.outbox queued sizes (may-outbox b kept) few;
  within = λ few.
      let left = half b - kept in
      let bound : (n : ℕ) → may_wait b kept n ≡ true → n ≤ left = λ n is. omega (arith, may-half b kept n is) in
      omega (arith, few, queued-within (may_wait b kept) left queued sizes bound (omega (arith, few)));
  alone = puts-alone b kept queued sizes;
}
