-- Answers taken apart, and passed on.
use Rattle.std.proofs.Common.{◌≡◌, ℕ, Result, Ok, Err, ◌⊎◌, inl, inr, refl, ap}
use Rattle.wire_fields.specs.Reading.{go_on}

abbrev value_or : {A E : Type 0} → Result A E → A → A
value_or (Ok x) d = x
value_or (Err e) d = d

abbrev fault_or : {A E : Type 0} → Result A E → E → E
fault_or (Ok x) d = d
fault_or (Err e) d = e

abbrev good : {A E : Type 0} → A → Result A E
good x = Ok x

abbrev bad : {A E : Type 0} → E → Result A E
bad e = Err e

-- a value and a place, and a place and a reason
abbrev pub found : {A E : Type 0} → A → ℕ → Result (A × ℕ) E
found x n = Ok (x, n)

abbrev pub stopped : {A S : Type 0} → ℕ → S → Result A (ℕ × S)
stopped p s = Err (p, s)

pub ok_is : {A E : Type 0} (x y : A) → good {E = E} x ≡ good y → x ≡ y
ok_is x y e = ap (λ r. value_or r x) e

pub err_is : {A E : Type 0} (x y : E) → bad {A = A} x ≡ bad y → x ≡ y
err_is x y e = ap (λ r. fault_or r x) e

pub found_is : {A E : Type 0} (x y : A) (n m : ℕ) → found {E = E} x n ≡ found y m → (x ≡ y) × (n ≡ m)
found_is {A} {E} x y n m e =
    (ap (λ (r : Result (A × ℕ) E). (value_or r (x, n)).0) e, ap (λ (r : Result (A × ℕ) E). (value_or r (x, n)).1) e)

pub stopped_is : {A S : Type 0} (p q : ℕ) (s t : S) → stopped {A = A} p s ≡ stopped q t → (p ≡ q) × (s ≡ t)
stopped_is {A} {S} p q s t e =
    (ap (λ (r : Result A (ℕ × S)). (fault_or r (p, s)).0) e, ap (λ (r : Result A (ℕ × S)). (fault_or r (p, s)).1) e)

-- a value that was gone on to came through the first step and the second
pub go_on_ok : {A B E : Type 0} (r : Result A E) (f : A → Result B E) (y : B) → go_on r f ≡ Ok y
    → (x : A) × (r ≡ Ok x) × (f x ≡ Ok y)
go_on_ok (Ok x) f y e = (x, refl, e)
go_on_ok (Err d) f y e = absurd (cc)

-- a refusal came from the first step, or from the second
pub go_on_err : {A B E : Type 0} (r : Result A E) (f : A → Result B E) (d : E) → go_on r f ≡ Err d
    → (r ≡ Err d) ⊎ ((x : A) × (r ≡ Ok x) × (f x ≡ Err d))
go_on_err (Ok x) f d e = inr (x, refl, e)
go_on_err {B = B} (Err c) f d e = inl (ap bad (err_is {A = B} c d e))
