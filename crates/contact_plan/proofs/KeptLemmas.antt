-- What the searches of a plan find.

use Rattle.std.proofs.Common.{Bool, ◌≡◌, ℕ, zero, suc, ◌+◌, ◌-◌, ◌<◌, ◌≤◌, ◌^◌, true, false, ◌&&◌, List, [], ◌∷◌, length, get_or, nat_lt, nat_le, Option, None, Some, if◌then◌else◌, refl, sym, ap, ◌∙◌, arith, subst, inl, inr}
use Rattle.std.proofs.lemmas.Bool.Decides.{nat_tests}
use Rattle.std.proofs.lemmas.Bool.{cases_lt, leb-true, leb-false}
use Rattle.std.proofs.lemmas.List.{length-map}
use Rattle.std.proofs.lemmas.List.Sorted.{IsPartitionedBy-leb}
use Rattle.std.specs.List.Sorted.{IsNonDecreasingBy, IsPartitionedBy, IsPartitionPoint}
use Rattle.std.specs.List.{position_from, slice_get}
use Rattle.contact_plan.specs.declared.kept.Kept.{Kept}
use Rattle.contact_plan.specs.Kept.{AreKept, IsKept, Parts, last_from, windows_of}
use Rattle.contact_plan.specs.Windows.{AreInOrder, IsMoment, IsPlan, elapsed, is_open, lies_in, next_from, total}
use Rattle.contact_plan.proofs.ContactLemmas.{closed-before, elapsed-cons, none-until, one-before, one-in, one-after, outside-after, outside-before, within, open-in-first, open-in-rest}

-- ---- kept windows are in order

pub order-of : (end contact : ℕ) (ps : List Kept) → AreKept end contact ps → AreInOrder end (windows_of ps)
order-of end contact [] kept = tt
order-of end contact (p ∷ ps) kept = (kept.0, kept.1, kept.2, order-of (p.window).to p.contact ps kept.4)

pub plan-of : (ps : List Kept) → IsKept ps → IsPlan (windows_of ps)
plan-of ps kept = record {
  few = let same = length-map ps (λ k. k.window) in let few = kept.few in omega (arith, same, few);
  order = order-of 0 0 ps kept.order;
}

-- ---- ends and contact times rise

le-to : (end contact : ℕ) (ps : List Kept) (j : ℕ) (d : Kept) → AreKept end contact ps → j < length ps → end ≤ ((get_or ps j d).window).to
le-to end contact [] j d kept low = absurd (omega arith)
le-to end contact (p ∷ ps) zero d kept low = let a = kept.0 in let b = kept.1 in omega (arith, a, b)
le-to end contact (p ∷ ps) (suc j) d kept low =
    let rest = le-to (p.window).to p.contact ps j d kept.4 (omega arith) in
    let a = kept.0 in let b = kept.1 in omega (arith, a, b, rest)

le-contact : (end contact : ℕ) (ps : List Kept) (j : ℕ) (d : Kept) → AreKept end contact ps → j < length ps → contact ≤ (get_or ps j d).contact
le-contact end contact [] j d kept low = absurd (omega arith)
le-contact end contact (p ∷ ps) zero d kept low = let a = kept.3 in omega (arith, a)
le-contact end contact (p ∷ ps) (suc j) d kept low =
    let rest = le-contact (p.window).to p.contact ps j d kept.4 (omega arith) in
    let a = kept.3 in omega (arith, a, rest)

tos-rise : (end contact : ℕ) (ps : List Kept) → AreKept end contact ps → IsNonDecreasingBy (λ k. (k.window).to) ps
tos-rise end contact [] kept i j d le low = absurd (omega arith)
tos-rise end contact (p ∷ ps) kept zero zero d le low = omega arith
tos-rise end contact (p ∷ ps) kept zero (suc j) d le low = le-to (p.window).to p.contact ps j d kept.4 (omega arith)
tos-rise end contact (p ∷ ps) kept (suc i) zero d le low = absurd (omega arith)
tos-rise end contact (p ∷ ps) kept (suc i) (suc j) d le low = tos-rise (p.window).to p.contact ps kept.4 i j d (omega arith) (omega arith)

le-from : (end contact : ℕ) (ps : List Kept) (j : ℕ) (d : Kept) → AreKept end contact ps → j < length ps → end ≤ ((get_or ps j d).window).from
le-from end contact [] j d kept low = absurd (omega arith)
le-from end contact (p ∷ ps) zero d kept low = kept.0
le-from end contact (p ∷ ps) (suc j) d kept low =
    let rest = le-from (p.window).to p.contact ps j d kept.4 (omega arith) in
    let a = kept.0 in let b = kept.1 in omega (arith, a, b, rest)

froms-rise : (end contact : ℕ) (ps : List Kept) → AreKept end contact ps → IsNonDecreasingBy (λ k. (k.window).from) ps
froms-rise end contact [] kept i j d le low = absurd (omega arith)
froms-rise end contact (p ∷ ps) kept zero zero d le low = omega arith
froms-rise end contact (p ∷ ps) kept zero (suc j) d le low =
    let rest = le-from (p.window).to p.contact ps j d kept.4 (omega arith) in let b = kept.1 in omega (arith, rest, b)
froms-rise end contact (p ∷ ps) kept (suc i) zero d le low = absurd (omega arith)
froms-rise end contact (p ∷ ps) kept (suc i) (suc j) d le low = froms-rise (p.window).to p.contact ps kept.4 i j d (omega arith) (omega arith)

contacts-rise : (end contact : ℕ) (ps : List Kept) → AreKept end contact ps → IsNonDecreasingBy (λ k. k.contact) ps
contacts-rise end contact [] kept i j d le low = absurd (omega arith)
contacts-rise end contact (p ∷ ps) kept zero zero d le low = omega arith
contacts-rise end contact (p ∷ ps) kept zero (suc j) d le low = le-contact (p.window).to p.contact ps j d kept.4 (omega arith)
contacts-rise end contact (p ∷ ps) kept (suc i) zero d le low = absurd (omega arith)
contacts-rise end contact (p ∷ ps) kept (suc i) (suc j) d le low = contacts-rise (p.window).to p.contact ps kept.4 i j d (omega arith) (omega arith)

pub tos-part : (t : ℕ) (ps : List Kept) → AreKept 0 0 ps → IsPartitionedBy (λ k. nat_le (k.window).to t) ps
tos-part t ps kept = IsPartitionedBy-leb (λ k. (k.window).to) ps t (tos-rise 0 0 ps kept)

pub contacts-part : (t : ℕ) (ps : List Kept) → AreKept 0 0 ps → IsPartitionedBy (λ k. nat_le k.contact t) ps
contacts-part t ps kept = IsPartitionedBy-leb (λ k. k.contact) ps t (contacts-rise 0 0 ps kept)

pub parts-at : (number : Kept → ℕ) (x : ℕ) (ps : List Kept) (i : ℕ) → i ≤ length ps
    → IsPartitionPoint (λ k. nat_le (number k) x ≡ true) (λ k. nat_le (number k) x ≡ false) ps i → Parts number x ps i
parts-at number x ps i within_it point = record {
  within = within_it;
  before = λ k d low. leb-true (number (get_or ps k d)) x (point.0 k d (omega arith) low);
  after = λ d low. leb-false (number (get_or ps i d)) x (point.1 i d (omega arith) low);
}

-- ---- the parts of a shorter list

parts-rest : (number : Kept → ℕ) (x : ℕ) (p : Kept) (ps : List Kept) (i : ℕ) → Parts number x (p ∷ ps) (suc i) → Parts number x ps i
parts-rest number x p ps i parts = record {
  within = let w = parts.within in omega (arith, w);
  before = λ k d low. parts.before (suc k) d (omega (arith, low));
  after = λ d low. parts.after d (omega (arith, low));
}

-- ---- what is kept at an index

pub record Fits (k : Kept) : Type 0 where
  pub order : (k.window).from < (k.window).to
  pub early : (k.window).to ≤ 2 ^ 62
  pub contact : (k.window).to - (k.window).from ≤ k.contact

pub kept-at : (end contact : ℕ) (ps : List Kept) (i : ℕ) (d : Kept) → AreKept end contact ps → i < length ps → Fits (get_or ps i d)
kept-at end contact [] i d kept low = absurd (omega arith)
kept-at end contact (p ∷ ps) zero d kept low = record { order = kept.1; early = kept.2; contact = let a = kept.3 in omega (arith, a) }
kept-at end contact (p ∷ ps) (suc i) d kept low = kept-at (p.window).to p.contact ps i d kept.4 (omega arith)

-- ---- the contact time at a moment

-- where it lies before the end of the window at index i, and after all before it
abbrev pub value_at : Kept → ℕ → ℕ
value_at k t =
    if nat_lt t (k.window).from then k.contact - ((k.window).to - (k.window).from)
    else k.contact - ((k.window).to - t)

value-early : (k : Kept) (t : ℕ) → t < (k.window).from → value_at k t ≡ k.contact - ((k.window).to - (k.window).from)
value-early k t low = let is : nat_lt t (k.window).from ≡ true = grind (arith, nat_tests) in rw is refl

value-since : (k : Kept) (t : ℕ) → (k.window).from ≤ t → value_at k t ≡ k.contact - ((k.window).to - t)
value-since k t high = let is : nat_lt t (k.window).from ≡ false = grind (arith, nat_tests) in rw is refl

elapsed-first : (end contact : ℕ) (p : Kept) (ps : List Kept) (t : ℕ) → AreKept end contact (p ∷ ps) → t < (p.window).to
    → contact + elapsed (windows_of (p ∷ ps)) t ≡ value_at p t
elapsed-first end contact p ps t kept low =
    let cons = elapsed-cons end p.window (windows_of ps) t (order-of end contact (p ∷ ps) kept) in
    let none = none-until (p.window).to (windows_of ps) t (order-of (p.window).to p.contact ps kept.4) (omega (arith, low)) in
    let is = kept.3 in
    let order = kept.1 in
    elim (cases_lt t (p.window).from) [
      | inl early ↦ (
          let one = one-before p.window t (omega (arith, early)) in
          let v = value-early p t early in
          omega (arith, cons, none, is, order, one, v)
          )
      | inr since ↦ (
          let one = one-in p.window t (omega (arith, since)) (omega (arith, low)) in
          let v = value-since p t (omega (arith, since)) in
          omega (arith, cons, none, is, order, one, v, low, since)
          )
    ]

-- a window that has ended has its whole length
elapsed-past-first : (end contact : ℕ) (p : Kept) (ps : List Kept) (t : ℕ) → AreKept end contact (p ∷ ps) → (p.window).to ≤ t
    → contact + elapsed (windows_of (p ∷ ps)) t ≡ p.contact + elapsed (windows_of ps) t
elapsed-past-first end contact p ps t kept high =
    let cons = elapsed-cons end p.window (windows_of ps) t (order-of end contact (p ∷ ps) kept) in
    let order = kept.1 in
    let one = one-after p.window t (omega (arith, order)) high in
    let is = kept.3 in
    omega (arith, cons, one, is)

pub elapsed-at : (end contact : ℕ) (ps : List Kept) (t i : ℕ) (d : Kept) → AreKept end contact ps → Parts (λ k. (k.window).to) t ps i → i < length ps
    → contact + elapsed (windows_of ps) t ≡ value_at (get_or ps i d) t
elapsed-at end contact [] t i d kept parts low = absurd (omega arith)
elapsed-at end contact (p ∷ ps) t zero d kept parts low = elapsed-first end contact p ps t kept (parts.after d low)
elapsed-at end contact (p ∷ ps) t (suc i) d kept parts low =
    elapsed-past-first end contact p ps t kept (parts.before 0 d (omega arith))
    ∙ elapsed-at (p.window).to p.contact ps t i d kept.4 (parts-rest (λ k. (k.window).to) t p ps i parts) (omega (arith, low))

pub elapsed-past : (end contact : ℕ) (ps : List Kept) (t i : ℕ) → AreKept end contact ps → Parts (λ k. (k.window).to) t ps i → length ps ≤ i
    → contact + elapsed (windows_of ps) t ≡ (last_from end contact ps).1
elapsed-past end contact [] zero i kept parts high = let none = none-until end [] zero tt (omega arith) in omega (arith, none)
elapsed-past end contact [] (suc t) i kept parts high = let none = none-until (suc t) [] (suc t) tt (omega arith) in omega (arith, none)
elapsed-past end contact (p ∷ ps) t zero kept parts high = absurd (omega (arith, high))
elapsed-past end contact (p ∷ ps) t (suc i) kept parts high =
    elapsed-past-first end contact p ps t kept (parts.before 0 p (omega arith))
    ∙ elapsed-past (p.window).to p.contact ps t i kept.4 (parts-rest (λ k. (k.window).to) t p ps i parts) (omega (arith, high))

-- ---- whether a moment lies in a window

open-first : (end contact : ℕ) (p : Kept) (ps : List Kept) (t : ℕ) → AreKept end contact (p ∷ ps) → t < (p.window).to
    → is_open (windows_of (p ∷ ps)) t ≡ nat_le (p.window).from t
open-first end contact p ps t kept low = elim (cases_lt t (p.window).from) [
  | inl early ↦ (
      let late : nat_le (p.window).from t ≡ false = grind (arith, nat_tests) in
      open-in-rest p.window (windows_of ps) t (outside-before p.window t early) ∙ (closed ∙ sym late)
      )
  | inr since ↦ (
      let began : nat_le (p.window).from t ≡ true = grind (arith, nat_tests) in
      open-in-first p.window (windows_of ps) t (within p.window t (omega (arith, since)) low) ∙ sym began
      )
] where
  closed : is_open (windows_of ps) t ≡ false
  closed = closed-before (p.window).to (windows_of ps) t (order-of (p.window).to p.contact ps kept.4) low

open-past-first : (p : Kept) (ps : List Kept) (t : ℕ) → (p.window).to ≤ t → is_open (windows_of (p ∷ ps)) t ≡ is_open (windows_of ps) t
open-past-first p ps t high = open-in-rest p.window (windows_of ps) t (outside-after p.window t high)

pub open-at : (end contact : ℕ) (ps : List Kept) (t i : ℕ) (d : Kept) → AreKept end contact ps → Parts (λ k. (k.window).to) t ps i → i < length ps
    → is_open (windows_of ps) t ≡ nat_le ((get_or ps i d).window).from t
open-at end contact [] t i d kept parts low = absurd (omega arith)
open-at end contact (p ∷ ps) t zero d kept parts low = open-first end contact p ps t kept (parts.after d low)
open-at end contact (p ∷ ps) t (suc i) d kept parts low =
    open-past-first p ps t (parts.before 0 d (omega arith))
    ∙ open-at (p.window).to p.contact ps t i d kept.4 (parts-rest (λ k. (k.window).to) t p ps i parts) (omega (arith, low))

pub open-past : (ps : List Kept) (t i : ℕ) → Parts (λ k. (k.window).to) t ps i → length ps ≤ i → is_open (windows_of ps) t ≡ false
open-past [] t i parts high = refl
open-past (p ∷ ps) t zero parts high = absurd (omega (arith, high))
open-past (p ∷ ps) t (suc i) parts high =
    open-past-first p ps t (parts.before 0 p (omega arith))
    ∙ open-past ps t i (parts-rest (λ k. (k.window).to) t p ps i parts) (omega (arith, high))

-- ---- the window that a moment lies in

-- an index where a moment has come so far as that window's beginning
abbrev pub from_then : ℕ → Kept → ℕ → Option ℕ
from_then t k i = if nat_le (k.window).from t then Some i else None

-- the index i, where a moment has come so far as the beginning of what is kept there
pub then-from : (t : ℕ) (ps : List Kept) (i : ℕ) (d : Kept) → ((get_or ps i d).window).from ≤ t → from_then t (get_or ps i d) (0 + i) ≡ Some i
then-from t ps i d since =
    let is : nat_le ((get_or ps i d).window).from t ≡ true = grind (arith, nat_tests) in
    let same : 0 + i ≡ i = omega arith in
    rw is (ap Some same)

pub then-none : (t : ℕ) (ps : List Kept) (i : ℕ) (d : Kept) → t < ((get_or ps i d).window).from → from_then t (get_or ps i d) (0 + i) ≡ None
then-none t ps i d early =
    let is : nat_le ((get_or ps i d).window).from t ≡ false = grind (arith, nat_tests) in
    rw is refl

lies-first : (p : Kept) (t : ℕ) → t < (p.window).to → lies_in p.window t ≡ nat_le (p.window).from t
lies-first p t low = let ends : nat_lt t (p.window).to ≡ true = grind (arith, nat_tests) in rw ends (and-true (nat_le (p.window).from t)) where
  and-true : (b : Bool) → (b && true) ≡ b
  and-true true = refl
  and-true false = refl

lies-early : (p : Kept) (t : ℕ) → t < (p.window).from → lies_in p.window t ≡ false
lies-early p t low = let begins : nat_le (p.window).from t ≡ false = grind (arith, nat_tests) in rw begins refl

lies-past : (p : Kept) (t : ℕ) → (p.window).to ≤ t → lies_in p.window t ≡ false
lies-past p t high = let ends : nat_lt t (p.window).to ≡ false = grind (arith, nat_tests) in rw ends (and-false (nat_le (p.window).from t)) where
  and-false : (b : Bool) → (b && false) ≡ false
  and-false true = refl
  and-false false = refl

-- no window that begins after a moment has it
none-later : (end contact n : ℕ) (ps : List Kept) (t : ℕ) → AreKept end contact ps → t < end
    → position_from (λ w. lies_in w t) n (windows_of ps) ≡ None
none-later end contact n [] t kept low = refl
none-later end contact n (p ∷ ps) t kept low =
    let a = kept.0 in
    let b = kept.1 in
    let out : lies_in p.window t ≡ false = lies-early p t (omega (arith, a, low)) in
    rw out (none-later (p.window).to p.contact (n + 1) ps t kept.4 (omega (arith, a, b, low)))

pub index-at : (end contact n : ℕ) (ps : List Kept) (t i : ℕ) (d : Kept) → AreKept end contact ps → Parts (λ k. (k.window).to) t ps i → i < length ps
    → position_from (λ w. lies_in w t) n (windows_of ps) ≡ from_then t (get_or ps i d) (n + i)
index-at end contact n [] t i d kept parts low = absurd (omega arith)
index-at end contact n (p ∷ ps) t zero d kept parts low =
    let before = parts.after d low in
    rw (lies-first p t before) (first (nat_le (p.window).from t)) where
      first : (b : Bool) → (if b then Some n else position_from (λ w. lies_in w t) (n + 1) (windows_of ps)) ≡ (if b then Some (n + 0) else None)
      first true = let same : n ≡ n + 0 = omega arith in ap Some same
      first false = none-later (p.window).to p.contact (n + 1) ps t kept.4 (parts.after d low)
index-at end contact n (p ∷ ps) t (suc i) d kept parts low =
    let out : lies_in p.window t ≡ false = lies-past p t (parts.before 0 d (omega arith)) in
    let rest = index-at (p.window).to p.contact (n + 1) ps t i d kept.4 (parts-rest (λ k. (k.window).to) t p ps i parts) (omega (arith, low)) in
    let same : n + 1 + i ≡ n + suc i = omega arith in
    rw out (rest ∙ ap (from_then t (get_or ps i d)) same)

pub index-past : (n : ℕ) (ps : List Kept) (t i : ℕ) → Parts (λ k. (k.window).to) t ps i → length ps ≤ i → position_from (λ w. lies_in w t) n (windows_of ps) ≡ None
index-past n [] t i parts high = refl
index-past n (p ∷ ps) t zero parts high = absurd (omega (arith, high))
index-past n (p ∷ ps) t (suc i) parts high =
    let out : lies_in p.window t ≡ false = lies-past p t (parts.before 0 p (omega arith)) in
    rw out (index-past (n + 1) ps t i (parts-rest (λ k. (k.window).to) t p ps i parts) (omega (arith, high)))

-- ---- the next beginning

pub froms-part : (t : ℕ) (ps : List Kept) → AreKept 0 0 ps → IsPartitionedBy (λ k. nat_le (k.window).from t) ps
froms-part t ps kept = IsPartitionedBy-leb (λ k. (k.window).from) ps t (froms-rise 0 0 ps kept)

pub next-at : (ps : List Kept) (t i : ℕ) (d : Kept) → Parts (λ k. (k.window).from) t ps i → i < length ps
    → next_from (windows_of ps) t ≡ Some ((get_or ps i d).window).from
next-at [] t i d parts low = absurd (omega arith)
next-at (p ∷ ps) t zero d parts low =
    let after = parts.after d low in
    let later : nat_lt t (p.window).from ≡ true = grind (arith, nat_tests) in
    rw later refl
next-at (p ∷ ps) t (suc i) d parts low =
    let before = parts.before 0 d (omega arith) in
    let begun : nat_lt t (p.window).from ≡ false = grind (arith, nat_tests) in
    rw begun (next-at ps t i d (parts-rest (λ k. (k.window).from) t p ps i parts) (omega (arith, low)))

pub next-past : (ps : List Kept) (t i : ℕ) → Parts (λ k. (k.window).from) t ps i → length ps ≤ i → next_from (windows_of ps) t ≡ None
next-past [] t i parts high = refl
next-past (p ∷ ps) t zero parts high = absurd (omega (arith, high))
next-past (p ∷ ps) t (suc i) parts high =
    let before = parts.before 0 p (omega arith) in
    let begun : nat_lt t (p.window).from ≡ false = grind (arith, nat_tests) in
    rw begun (next-past ps t i (parts-rest (λ k. (k.window).from) t p ps i parts) (omega (arith, high)))

-- ---- the moment at a contact time

-- it is in the window at index i, and all before that have ended
pub record Stands (contact : ℕ) (ps : List Kept) (i : ℕ) (k : Kept) : Type 0 where
  pub since : k.contact - ((k.window).to - (k.window).from) ≤ contact
  pub before : contact < k.contact
  pub ended : Parts (λ k. (k.window).to) ((k.window).to - (k.contact - contact)) ps i

stands-first : (end sum contact : ℕ) (p : Kept) (ps : List Kept) → AreKept end sum (p ∷ ps) → sum ≤ contact → contact < p.contact → Stands contact (p ∷ ps) 0 p
stands-first end sum contact p ps kept from low = record {
  since = let is = kept.3 in omega (arith, is, from);
  before = low;
  ended = record {
    within = omega arith;
    before = λ k d lower. absurd (omega (arith, lower));
    after = λ d lower. (let is = kept.3 in let order = kept.1 in omega (arith, is, low, order, from));
  };
}

stands-more : (contact : ℕ) (p : Kept) (ps : List Kept) (i : ℕ) (k : Kept) → Stands contact ps i k → (p.window).to ≤ (k.window).to - (k.contact - contact) → Stands contact (p ∷ ps) (suc i) k
stands-more contact p ps i k stands later = record {
  since = stands.since;
  before = stands.before;
  ended = record {
    within = let w = stands.ended.within in omega (arith, w);
    before = λ j d low. ends-by j d low;
    after = λ d low. stands.ended.after d (omega (arith, low));
  };
} where
  ends-by : (j : ℕ) (d : Kept) → j < suc i → ((get_or (p ∷ ps) j d).window).to ≤ (k.window).to - (k.contact - contact)
  ends-by zero d low = later
  ends-by (suc j) d low = stands.ended.before j d (omega (arith, low))

-- a moment after that of the contact time at a window's end comes at or after that end
record Standing (end contact : ℕ) (ps : List Kept) (i : ℕ) (k : Kept) : Type 0 where
  stands : Stands contact ps i k
  later : end ≤ (k.window).to - (k.contact - contact)

standing : (end sum contact : ℕ) (ps : List Kept) (i : ℕ) (d : Kept) → AreKept end sum ps → sum ≤ contact → Parts (λ k. k.contact) contact ps i → i < length ps
    → Standing end contact ps i (get_or ps i d)
standing end sum contact [] i d kept from parts low = absurd (omega arith)
standing end sum contact (p ∷ ps) zero d kept from parts low =
    let below = parts.after d low in record {
      stands = stands-first end sum contact p ps kept from below;
      later = let is = kept.3 in let a = kept.0 in let b = kept.1 in omega (arith, is, a, b, from, below);
    }
standing end sum contact (p ∷ ps) (suc i) d kept from parts low =
    let rest = standing (p.window).to p.contact contact ps i d kept.4 (parts.before 0 d (omega arith)) (parts-rest (λ k. k.contact) contact p ps i parts) (omega (arith, low)) in record {
      stands = stands-more contact p ps i (get_or ps i d) rest.stands rest.later;
      later = let l = rest.later in let a = kept.0 in let b = kept.1 in omega (arith, l, a, b);
    }

pub stands-at : (contact : ℕ) (ps : List Kept) (i : ℕ) (d : Kept) → AreKept 0 0 ps → Parts (λ k. k.contact) contact ps i → i < length ps → Stands contact ps i (get_or ps i d)
stands-at contact ps i d kept parts low = (standing 0 0 contact ps i d kept (omega arith) parts low).stands

pub moment-is : (contact : ℕ) (ps : List Kept) (i : ℕ) (k d : Kept) → AreKept 0 0 ps → i < length ps → k ≡ get_or ps i d → Stands contact ps i k
    → IsMoment (windows_of ps) contact ((k.window).to - (k.contact - contact))
moment-is contact ps i k d kept low is stands =
    let t : ℕ = (k.window).to - (k.contact - contact) in
    let fits : Fits k = subst Fits (sym is) (kept-at 0 0 ps i d kept low) in
    let order = fits.order in
    let room = fits.contact in
    let since = stands.since in
    let before = stands.before in
    let high : (k.window).from ≤ (k.window).to - (k.contact - contact) = omega (arith, order, room, since, before) in
    let began : nat_le (k.window).from ((k.window).to - (k.contact - contact)) ≡ true = grind (arith, nat_tests) in
    record {
      is_in = open-at 0 0 ps ((k.window).to - (k.contact - contact)) i d kept stands.ended low
          ∙ (ap (λ (q : Kept). nat_le (q.window).from ((k.window).to - (k.contact - contact))) (sym is) ∙ began);
      below =
          let at = elapsed-at 0 0 ps ((k.window).to - (k.contact - contact)) i d kept stands.ended low in
          let here = ap (λ (q : Kept). value_at q ((k.window).to - (k.contact - contact))) is in
          let v = value-since k ((k.window).to - (k.contact - contact)) high in
          let all : 0 + elapsed (windows_of ps) ((k.window).to - (k.contact - contact)) ≡ k.contact - ((k.window).to - ((k.window).to - (k.contact - contact))) =
          at ∙ (sym here ∙ v) in
          omega (arith, all, order, room, since, before);
    }

-- from the contact time after the last window on there is none
pub none-past : (end sum contact : ℕ) (ps : List Kept) (i : ℕ) → AreKept end sum ps → sum ≤ contact → Parts (λ k. k.contact) contact ps i → length ps ≤ i
    → sum + total (windows_of ps) ≤ contact
none-past end sum contact [] i kept from parts high = omega (arith, from)
none-past end sum contact (p ∷ ps) zero kept from parts high = absurd (omega (arith, high))
none-past end sum contact (p ∷ ps) (suc i) kept from parts high =
    let rest = none-past (p.window).to p.contact contact ps i kept.4 (parts.before 0 p (omega arith)) (parts-rest (λ k. k.contact) contact p ps i parts) (omega (arith, high)) in
    let is = kept.3 in
    omega (arith, rest, is)

-- ---- the last window

pub last-read : (end contact : ℕ) (ps : List Kept) (k : Kept) → Some k ≡ slice_get ps (length ps - 1) → ((k.window).to, k.contact) ≡ last_from end contact ps
last-read end contact [] k read = cc
last-read end contact (p ∷ []) k read = cc
last-read end contact (p ∷ (q ∷ qs)) k read =
    last-read (p.window).to p.contact (q ∷ qs) k (read ∙ ap (slice_get (p ∷ (q ∷ qs))) (let same : length (p ∷ (q ∷ qs)) - 1 ≡ suc (length (q ∷ qs) - 1) = omega arith in same))
