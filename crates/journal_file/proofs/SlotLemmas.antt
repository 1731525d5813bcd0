-- Slots in the order of their ids: what stands before and after a place, and which block is found there.
use Rattle.std.proofs.Common.{◌≡◌, inl, inr, ℕ, zero, suc, ◌+◌, ◌-◌, ◌<◌, ◌≤◌, ◌==◌, Bool, true, false, nat_lt, ◌&&◌, List, [], ◌∷◌, ◌++◌, length, get_or, set, take, drop, remove, Option, Some, None, is_some, Bor, refl, sym, ap, ◌∙◌, arith}
use Rattle.std.proofs.lemmas.Bool.{ne_eqb, eq-eqb, lt-ltb, le-ltb, eqb-true, eqb-false, cases_lt}
use Rattle.std.proofs.lemmas.List.{length-append, append-nil, take_all, set_split}
use Rattle.std.proofs.lemmas.List.Concat.{flat_map-append}
use Rattle.std.proofs.lemmas.List.Edits.{remove-append_right}
use Rattle.std.specs.List.{position_or_len}
use Rattle.journal_file.specs.declared.kept.Pending.{Pending}
use Rattle.journal_file.specs.declared.slots.Slot.{Slot}
use Rattle.journal_file.specs.Keeping.{has_id}
use Rattle.journal_file.specs.Rising.{held_of, held_in, held, AllBelow, AllAbove, AllFrom, AreRising, Found, NotFound, holds_block}

-- ---- bounds of ids

apart : (a b : ℕ) → a ≤ b → (b ≡ a → ⊥) → a < b
apart a b le other = elim (cases_lt a b) [ inl low ↦ low | inr high ↦ absurd (other (omega (arith, high, le))) ]

above-at : (n : ℕ) (xs : List Slot) (i : ℕ) (d : Slot) → AllAbove n xs → i < length xs → n < (get_or xs i d).id
above-at n [] i d a lt = absurd (omega arith)
above-at n (x ∷ xs) zero d a lt = a.0
above-at n (x ∷ xs) (suc i) d a lt = above-at n xs i d a.1 (omega arith)

above-weaker : (m n : ℕ) (xs : List Slot) → m < n → AllAbove n xs → AllAbove m xs
above-weaker m n [] lt a = tt
above-weaker m n (x ∷ xs) lt a = (omega (arith, lt, a.0), above-weaker m n xs lt a.1)

above-from : (m n : ℕ) (xs : List Slot) → m ≤ n → AllAbove n xs → AllFrom m xs
above-from m n [] le a = tt
above-from m n (x ∷ xs) le a = (omega (arith, a.0), above-from m n xs le a.1)

pub below-weaker : (m n : ℕ) (xs : List Slot) → m ≤ n → AllBelow m xs → AllBelow n xs
below-weaker m n [] le b = tt
below-weaker m n (x ∷ xs) le b = (omega (arith, b.0), below-weaker m n xs le b.1)

-- up to a slot with an id below a number all have one
pub rising-below : (n : ℕ) (xs : List Slot) (i : ℕ) (d : Slot) → AreRising xs → i < length xs → (get_or xs i d).id < n → AllBelow n (take (suc i) xs)
rising-below n [] i d r lt small = absurd (omega arith)
rising-below n (x ∷ xs) zero d r lt small = (small, tt)
rising-below n (x ∷ xs) (suc i) d r lt small = (
  omega (arith, above-at x.id xs i d r.0 (omega arith), small),
  rising-below n xs i d r.1 (omega arith) small,
)

-- from a slot on with an id no less than a number all have one
pub rising-from : (n : ℕ) (xs : List Slot) (i : ℕ) (d : Slot) → AreRising xs → i < length xs → n ≤ (get_or xs i d).id → AllFrom n (drop i xs)
rising-from n [] i d r lt big = absurd (omega arith)
rising-from n (x ∷ xs) zero d r lt big = (big, above-from n x.id xs big r.0)
rising-from n (x ∷ xs) (suc i) d r lt big = rising-from n xs i d r.1 (omega arith) big

pub rising-below-at : (n : ℕ) (xs : List Slot) (i : ℕ) (d : Slot) → AreRising xs → i < length xs → (get_or xs i d).id < n → AllBelow n (take (i + 1) xs)
rising-below-at n xs i d r lt small =
    let next : suc i ≡ i + 1 = omega arith in
    rw next at (rising-below n xs i d r lt small)

-- ---- a slot is emptied, or added

set-above : (n : ℕ) (xs : List Slot) (i : ℕ) (d s : Slot) → s.id ≡ (get_or xs i d).id → AllAbove n xs → AllAbove n (set xs i s)
set-above n [] i d s same a = tt
set-above n (x ∷ xs) zero d s same a = (omega (arith, a.0, same), a.1)
set-above n (x ∷ xs) (suc i) d s same a = (a.0, set-above n xs i d s same a.1)

pub set-below : (n : ℕ) (xs : List Slot) (i : ℕ) (d s : Slot) → s.id ≡ (get_or xs i d).id → AllBelow n xs → AllBelow n (set xs i s)
set-below n [] i d s same b = tt
set-below n (x ∷ xs) zero d s same b = (omega (arith, b.0, same), b.1)
set-below n (x ∷ xs) (suc i) d s same b = (b.0, set-below n xs i d s same b.1)

pub set-rising : (xs : List Slot) (i : ℕ) (d s : Slot) → s.id ≡ (get_or xs i d).id → AreRising xs → AreRising (set xs i s)
set-rising [] i d s same r = tt
set-rising (x ∷ xs) zero d s same r = (rw same r.0, r.1)
set-rising (x ∷ xs) (suc i) d s same r = (set-above x.id xs i d s same r.0, set-rising xs i d s same r.1)

push-above : (n : ℕ) (xs : List Slot) (s : Slot) → n < s.id → AllAbove n xs → AllAbove n (xs ++ s ∷ [])
push-above n [] s lt a = (lt, tt)
push-above n (x ∷ xs) s lt a = (a.0, push-above n xs s lt a.1)

pub push-below : (n : ℕ) (xs : List Slot) (s : Slot) → s.id < n → AllBelow n xs → AllBelow n (xs ++ s ∷ [])
push-below n [] s lt b = (lt, tt)
push-below n (x ∷ xs) s lt b = (b.0, push-below n xs s lt b.1)

pub push-rising : (xs : List Slot) (s : Slot) → AllBelow s.id xs → AreRising xs → AreRising (xs ++ s ∷ [])
push-rising [] s b r = (tt, tt)
push-rising (x ∷ xs) s b r = (push-above x.id xs s b.0 r.0, push-rising xs s b.1 r.1)

-- ---- what slots hold

abbrev before_others : Slot → Option (Bor (List ℕ)) → List Pending → List Pending
before_others slot block others = held_of slot.id slot.face slot.came block ++ others

pub held-append : (xs ys : List Slot) → held (xs ++ ys) ≡ held xs ++ held ys
held-append xs ys = flat_map-append held_in xs ys

-- slots with ids below this one are passed over
place-below : (id : ℕ) (xs : List Slot) (ps : List Pending) → AllBelow id xs
    → position_or_len (has_id id) (held xs ++ ps) ≡ length (held xs) + position_or_len (has_id id) ps
place-below id [] ps b = omega arith
place-below id (x ∷ xs) ps b = by x.block (place-below id xs ps b.1)
  where
    by : (o : Option (Bor (List ℕ))) → position_or_len (has_id id) (held xs ++ ps) ≡ length (held xs) + position_or_len (has_id id) ps
        → position_or_len (has_id id) (before_others x o (held xs) ++ ps)
        ≡ length (before_others x o (held xs)) + position_or_len (has_id id) ps
    by None rest = rest
    by (Some block) rest = rw (ne_eqb x.id id (λ e. omega (arith, e, b.0)), rest) (omega arith)

-- and in slots with ids above it there is none
place-above : (id : ℕ) (xs : List Slot) → AllAbove id xs → position_or_len (has_id id) (held xs) ≡ length (held xs)
place-above id [] a = refl
place-above id (x ∷ xs) a = by x.block (place-above id xs a.1)
  where
    by : (o : Option (Bor (List ℕ))) → position_or_len (has_id id) (held xs) ≡ length (held xs)
        → position_or_len (has_id id) (before_others x o (held xs)) ≡ length (before_others x o (held xs))
    by None rest = rest
    by (Some block) rest = rw (ne_eqb x.id id (λ e. omega (arith, e, a.0)), rest) (omega arith)

-- no block has an id between those of two neighbours
none-there : (id : ℕ) (xs ys : List Slot) → AllBelow id xs → AllAbove id ys
    → position_or_len (has_id id) (held xs ++ held ys) ≡ length (held xs ++ held ys)
none-there id xs ys b a = rw (length-append (held xs) (held ys), place-below id xs (held ys) b, place-above id ys a) refl

none-in : (id : ℕ) (xs ys : List Slot) (slots : List Slot) → AllBelow id xs → AllAbove id ys → held slots ≡ held xs ++ held ys → NotFound id slots
none-in id xs ys slots b a is =
    let at_end = none-there id xs ys b a in
    let n = length (held xs ++ held ys) in
    let shut : nat_lt n n ≡ false = le-ltb n n (omega arith) in record {
      pending = rw (is, at_end) shut;
      leaves = rw (is, at_end, shut) refl;
    }

split : (xs : List Slot) (i : ℕ) (d : Slot) → i < length xs → xs ≡ take i xs ++ get_or xs i d ∷ drop (suc i) xs
split [] i d lt = absurd (omega arith)
split (x ∷ xs) zero d lt = refl
split (x ∷ xs) (suc i) d lt = ap (λ (l : List Slot). x ∷ l) (split xs i d (omega arith))

from-drop : (n : ℕ) (xs : List Slot) (i : ℕ) (d : Slot) → i < length xs → AllFrom n (drop i xs) → n ≤ (get_or xs i d).id
from-drop n [] i d lt from = absurd (omega arith)
from-drop n (x ∷ xs) zero d lt from = from.0
from-drop n (x ∷ xs) (suc i) d lt from = from-drop n xs i d (omega arith) from

after-drop : (xs : List Slot) (i : ℕ) (d : Slot) → i < length xs → AreRising xs → AllAbove (get_or xs i d).id (drop (suc i) xs)
after-drop [] i d lt r = absurd (omega arith)
after-drop (x ∷ xs) zero d lt r = r.0
after-drop (x ∷ xs) (suc i) d lt r = after-drop xs i d (omega arith) r.1

-- a slot in the midst of others
held-split : (xs : List Slot) (i : ℕ) (d : Slot) → i < length xs
    → held xs ≡ held (take i xs) ++ before_others (get_or xs i d) (get_or xs i d).block (held (drop (suc i) xs))
held-split xs i d lt = ap held (split xs i d lt) ∙ held-append (take i xs) (get_or xs i d ∷ drop (suc i) xs)

held-set : (xs : List Slot) (i : ℕ) (s : Slot) → i < length xs → s.block ≡ None → held (set xs i s) ≡ held (take i xs) ++ held (drop (suc i) xs)
held-set xs i s lt none =
    ap held (set_split xs i s lt) ∙ held-append (take i xs) (s ∷ drop (suc i) xs)
    ∙ ap (λ (o : Option (Bor (List ℕ))). held (take i xs) ++ before_others s o (held (drop (suc i) xs))) none

abbrev pending_of : Slot → Bor (List ℕ) → Pending
pending_of s block = record { id = s.id; face = s.face; came = s.came; block = block.now }

held-full : (xs : List Slot) (i : ℕ) (d : Slot) (block : Bor (List ℕ)) → i < length xs → (get_or xs i d).block ≡ Some block
    → held xs ≡ held (take i xs) ++ pending_of (get_or xs i d) block ∷ held (drop (suc i) xs)
held-full xs i d block lt is =
    held-split xs i d lt
    ∙ ap (λ (o : Option (Bor (List ℕ))). held (take i xs) ++ before_others (get_or xs i d) o (held (drop (suc i) xs))) is

removed : (front rest : List Pending) (p : Pending) → remove (front ++ p ∷ rest) (length front) ≡ front ++ rest
removed front rest p =
    remove-append_right front (p ∷ rest) (length front) (length front) refl (omega arith)
    ∙ ap (λ (n : ℕ). front ++ remove (p ∷ rest) n) (gone (length front))
  where
    gone : (n : ℕ) → n - n ≡ 0
    gone n = omega arith

found-at : (id : ℕ) (xs : List Slot) (i : ℕ) (d : Slot) (block : Bor (List ℕ)) → AllBelow id (take i xs) → i < length xs
    → (get_or xs i d).id ≡ id → (get_or xs i d).block ≡ Some block → Found id i xs
found-at id xs i d block b lt same is =
    let front = held (take i xs) in
    let p = pending_of (get_or xs i d) block in
    let rest = held (drop (suc i) xs) in
    let whole = held-full xs i d block lt is in
    let here : position_or_len (has_id id) (front ++ p ∷ rest) ≡ length front =
    place-below id (take i xs) (p ∷ rest) b ∙ rw (eq-eqb (get_or xs i d).id id same) (plus-none (length front)) in
    let inside : nat_lt (length front) (length (front ++ p ∷ rest)) ≡ true =
    rw (length-append front (p ∷ rest)) (lt-ltb (length front) (length front + suc (length rest)) (omega arith)) in record {
      within = lt;
      pending = rw (whole, here) inside;
      leaves = λ e s kept none. held-set xs i s lt none ∙ sym (rw (whole, here, inside) (removed front rest p));
    }
  where
    plus-none : (n : ℕ) → n + 0 ≡ n
    plus-none n = omega arith

abbrev both : Bool → Bool → Bool
both a b = a && b

-- the slot that isn't below the id holds its block, or no slot does
pub found-slot : (id : ℕ) (xs : List Slot) (i : ℕ) (d : Slot) → AllBelow id (take i xs) → i < length xs
    → holds_block id (get_or xs i d) ≡ true → Found id i xs
found-slot id xs i d b lt holds = by (get_or xs i d).block refl ((get_or xs i d).id == id) refl holds
  where
    by : (o : Option (Bor (List ℕ))) → (get_or xs i d).block ≡ o → (t : Bool) → ((get_or xs i d).id == id) ≡ t → both t (is_some o) ≡ true → Found id i xs
    by None is true same holds = absurd (cc)
    by (Some block) is true same holds = found-at id xs i d block b lt (eqb-true (get_or xs i d).id id same) is
    by None is false same holds = absurd (cc)
    by (Some block) is false same holds = absurd (cc)

pub not-found : (id : ℕ) (xs : List Slot) (i : ℕ) (d : Slot) → AreRising xs → AllBelow id (take i xs) → AllFrom id (drop i xs) → i < length xs
    → holds_block id (get_or xs i d) ≡ false → NotFound id xs
not-found id xs i d r b from lt holds = by (get_or xs i d).block refl ((get_or xs i d).id == id) refl holds
  where
    after : AllAbove (get_or xs i d).id (drop (suc i) xs)
    after = after-drop xs i d lt r

    by : (o : Option (Bor (List ℕ))) → (get_or xs i d).block ≡ o → (t : Bool) → ((get_or xs i d).id == id) ≡ t → both t (is_some o) ≡ false → NotFound id xs
    by None is true same holds =
        none-in id (take i xs) (drop (suc i) xs) xs b (rw (sym (eqb-true (get_or xs i d).id id same)) after)
        (held-split xs i d lt
        ∙ ap (λ (o : Option (Bor (List ℕ))). held (take i xs) ++ before_others (get_or xs i d) o (held (drop (suc i) xs))) is)
    by (Some block) is true same holds = absurd (cc)
    by o is false same holds =
        let far = apart id (get_or xs i d).id (from-drop id xs i d lt from) (eqb-false (get_or xs i d).id id same) in
        none-in id (take i xs) (get_or xs i d ∷ drop (suc i) xs) xs b (far, above-weaker id (get_or xs i d).id (drop (suc i) xs) far after) (held-split xs i d lt)

pub none-past : (id : ℕ) (xs : List Slot) (i : ℕ) → AllBelow id (take i xs) → length xs ≤ i → NotFound id xs
none-past id xs i b long = none-in id xs [] xs (rw (take_all i xs long) at b) tt (sym (append-nil (held xs)))
