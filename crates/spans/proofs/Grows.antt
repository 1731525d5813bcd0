-- A run that grows over what follows, over plain variables.

use Rattle.std.proofs.Common.{◌≡◌, ℕ, ◌+◌, ◌<◌, ◌≤◌, List, [], ◌∷◌, ◌++◌, length, refl, sym, ap, ◌∙◌, subst, arith, inl, inr}
use Rattle.std.proofs.lemmas.Bool.{cases_lt}
use Rattle.spans.specs.declared.range.Run.{Run}
use Rattle.spans.specs.declared.growth.Growth.{Growth}
use Rattle.spans.specs.Growing.{over, grown_over, left_after}
use Rattle.spans.specs.Runs.{AreApart, end_after, last_begin}
use Rattle.spans.proofs.Apart.{AreApart-lower, AreApart-right, AreApart-left, AreApart-after, le-end_after, le-last_begin}
use Rattle.spans.proofs.Growing.{grown_over-yes, grown_over-no, left_after-yes, left_after-no}

-- what begins after `to` is not met
pub left_after-far : (to low : ℕ) (runs : List Run) → to < low → AreApart low runs → left_after to runs ≡ runs
left_after-far to low [] far apart = refl
left_after-far to low (r ∷ rs) far apart = left_after-no to r rs (omega (arith, apart.0))

pub grown_over-far : (to low : ℕ) (g : Growth) (runs : List Run) → to < low → AreApart low runs → grown_over to g runs ≡ g
grown_over-far to low g [] far apart = refl
grown_over-far to low g (r ∷ rs) far apart = grown_over-no to g r rs (omega (arith, apart.0))

-- ---- two parts

pub left_after-append : (to low : ℕ) (xs ys : List Run) → AreApart low (xs ++ ys) → left_after to (xs ++ ys) ≡ left_after to xs ++ left_after to ys
left_after-append to low [] ys apart = refl
left_after-append to low (x ∷ xs) ys apart =
    elim (cases_lt to x.from) [
      | inl far ↦
          let after = AreApart-right (x.to + 1) xs ys apart.2 in
          left_after-no to x (xs ++ ys) far
          ∙ (ap (λ zs. (x ∷ xs) ++ zs) (sym (left_after-far to (x.to + 1) ys (omega (arith, far, apart.1)) after))
          ∙ ap (λ zs. zs ++ left_after to ys) (sym (left_after-no to x xs far)))
      | inr near ↦
          left_after-yes to x (xs ++ ys) near
          ∙ (left_after-append to (x.to + 1) xs ys apart.2
          ∙ ap (λ zs. zs ++ left_after to ys) (sym (left_after-yes to x xs near)))
    ]

pub grown_over-append : (to low : ℕ) (g : Growth) (xs ys : List Run) → AreApart low (xs ++ ys) → grown_over to g (xs ++ ys) ≡ grown_over to (grown_over to g xs) ys
grown_over-append to low g [] ys apart = refl
grown_over-append to low g (x ∷ xs) ys apart =
    elim (cases_lt to x.from) [
      | inl far ↦
          let after = AreApart-right (x.to + 1) xs ys apart.2 in
          grown_over-no to g x (xs ++ ys) far
          ∙ (sym (grown_over-far to (x.to + 1) g ys (omega (arith, far, apart.1)) after)
          ∙ ap (λ h. grown_over to h ys) (sym (grown_over-no to g x xs far)))
      | inr near ↦
          grown_over-yes to g x (xs ++ ys) near
          ∙ (grown_over-append to (x.to + 1) (over g x) xs ys apart.2
          ∙ ap (λ h. grown_over to h ys) (sym (grown_over-yes to g x xs near)))
    ]

-- ---- a whole chunk, and a part of one

pub left_after-whole : (to place low : ℕ) (runs : List Run) → AreApart low runs → last_begin place runs ≤ to → left_after to runs ≡ []
left_after-whole to place low [] apart last = refl
left_after-whole to place low (r ∷ rs) apart last =
    let begins = le-last_begin r.from rs (AreApart-lower (r.to + 1) r.from rs (omega (arith, apart.1)) apart.2) in
    left_after-yes to r rs (omega (arith, begins, last)) ∙ left_after-whole to r.from (r.to + 1) rs apart.2 last

left_after-first : (to : ℕ) (r : Run) (rs : List Run) → to < r.from → 0 < length (left_after to (r ∷ rs))
left_after-first to r rs far =
    let e = ap (λ (xs : List Run). length xs) (left_after-no to r rs far) in
    omega (arith, e)

pub left_after-some : (to place low : ℕ) (runs : List Run) → 0 < length runs → AreApart low runs → to < last_begin place runs → 0 < length (left_after to runs)
left_after-some to place low [] some apart last = absurd (omega arith)
left_after-some to place low (r ∷ []) some apart last = left_after-first to r [] last
left_after-some to place low (r ∷ (s ∷ rs)) some apart last =
    elim (cases_lt to r.from) [
      | inl far ↦ left_after-first to r (s ∷ rs) far
      | inr near ↦
          let rest = left_after-some to r.from (r.to + 1) (s ∷ rs) (omega arith) apart.2 last in
          subst (λ (xs : List Run). 0 < length xs) (sym (left_after-yes to r (s ∷ rs) near)) rest
    ]

-- what follows a run that begins after `to` does too
pub last_begin-far : (to place low : ℕ) (xs ys : List Run) → 0 < length xs → AreApart low (xs ++ ys) → to < last_begin place xs → left_after to ys ≡ ys
last_begin-far to place low [] ys some apart last = absurd (omega arith)
last_begin-far to place low (x ∷ []) ys some apart last = left_after-far to (x.to + 1) ys (omega (arith, last, apart.1)) apart.2
last_begin-far to place low (x ∷ (y ∷ xs)) ys some apart last = last_begin-far to x.from (x.to + 1) (y ∷ xs) ys (omega arith) apart.2 last

pub grown_over-last : (to place low : ℕ) (g : Growth) (xs ys : List Run) → 0 < length xs → AreApart low (xs ++ ys) → to < last_begin place xs → grown_over to g ys ≡ g
grown_over-last to place low g [] ys some apart last = absurd (omega arith)
grown_over-last to place low g (x ∷ []) ys some apart last = grown_over-far to (x.to + 1) g ys (omega (arith, last, apart.1)) apart.2
grown_over-last to place low g (x ∷ (y ∷ xs)) ys some apart last = grown_over-last to x.from (x.to + 1) g (y ∷ xs) ys (omega arith) apart.2 last

-- a growing run ends no later than those that it may meet
pub grown_over-end : (to : ℕ) (g : Growth) (runs : List Run) → AreApart (g.end + 1) runs → (grown_over to g runs).end ≤ end_after g.end runs
grown_over-end to g [] apart = omega arith
grown_over-end to g (r ∷ rs) apart =
    elim (cases_lt to r.from) [
      | inl far ↦
          let e = ap (λ (h : Growth). h.end) (grown_over-no to g r rs far) in
          let le = le-end_after r.to rs apart.2 in
          omega (arith, e, le, apart.0, apart.1)
      | inr near ↦
          let e = ap (λ (h : Growth). h.end) (grown_over-yes to g r rs near) in
          let rest = grown_over-end to (over g r) rs apart.2 in
          omega (arith, e, rest)
    ]

pub AreApart-grown : (to : ℕ) (g : Growth) (xs ys : List Run) → AreApart (g.end + 1) (xs ++ ys) → AreApart ((grown_over to g xs).end + 1) ys
AreApart-grown to g xs ys apart =
    let le = grown_over-end to g xs (AreApart-left (g.end + 1) xs ys apart) in
    AreApart-lower (end_after g.end xs + 1) ((grown_over to g xs).end + 1) ys (omega (arith, le)) (AreApart-after g.end xs ys apart)
