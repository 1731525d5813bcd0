-- Fields that stand later in a text are read as where they lie; and how many octets a field takes.

use Rattle.std.proofs.Common.{◌≡◌, ℕ, ◌+◌, ◌-◌, ◌<◌, ◌≤◌, Bool, true, false, List, ◌++◌, length, take, drop, Option, Some, None, Result, Ok, Err, inl, inr, refl, sym, ap, ◌∙◌, arith, add_assoc, take-append-drop}
use Rattle.std.proofs.lemmas.Bool.{cases_lt}
use Rattle.std.proofs.lemmas.List.{length-take-le, length-drop}
use Rattle.std.proofs.Math.Seq.{drop-append-add}
use Rattle.wire_fields.specs.declared.miss.Miss.{Miss}
use Rattle.wire_fields.specs.declared.miss.Miss.TheVariants as misses
use Rattle.wire_fields.specs.Kind.{octet, number}
use Rattle.wire_fields.specs.Format.{Format, give, place, since, field, such_that, and_then}
use Rattle.wire_fields.specs.Refusal.{Stop, truncated, because}
use Rattle.wire_fields.specs.Reading.{look, ahead, named, judged, go_on, read, IsOctets}
use Rattle.wire_fields.specs.Words.{choice}
use Rattle.wire_fields.proofs.ResultLemmas.{found, stopped, found_is, stopped_is, go_on_ok, go_on_err}
use Rattle.wire_fields.proofs.ReadLemmas.{read-found, read-refused}
use Rattle.wire_fields.proofs.StayLemmas.{read-stays, read-within, octets-parts}
use Rattle.wire_fields.proofs.ContinueLemmas.{found-longer}
use Rattle.wire_fields.proofs.TextLemmas.{octets-drop}

-- ---- fields that don't look at their place

abbrev pub NoPlace : {C A : Type 0} → Format C A → Type 0
NoPlace (give x) = Unit {0}
NoPlace place = ⊥
NoPlace (since p) = ⊥
NoPlace (field k cause) = Unit {0}
NoPlace (such_that f conditions) = NoPlace f
NoPlace (and_then {A = X} f g) = NoPlace f × ((x : X) → NoPlace (g x))

pub no_place-choice : {C A : Type 0} (t : Bool) (f g : Format C A) → NoPlace f → NoPlace g → NoPlace (choice t f g)
no_place-choice true f g first second = first
no_place-choice false f g first second = second

-- an answer whose places count from so many octets before
abbrev pub moved : {A S : Type 0} → ℕ → Result (A × ℕ) (ℕ × S) → Result (A × ℕ) (ℕ × S)
moved n (Ok x) = Ok (x.0, n + x.1)
moved n (Err s) = Err (n + s.0, s.1)

named-moved : {C A : Type 0} (n at : ℕ) (cause : C) (r : Result (A × ℕ) Miss)
    → named (n + at) cause (ahead (n + at) r) ≡ moved n (named at cause (ahead at r))
named-moved {C} n at cause (Ok x) = ap (λ (k : ℕ). found {E = ℕ × Stop C} x.0 k) (add_assoc n at x.1)
named-moved n at cause (Err misses.Truncated) = refl
named-moved n at cause (Err misses.Absent) = refl

judged-moved : {C A : Type 0} (n at : ℕ) (cause : Option C) (x : A × ℕ)
    → judged (n + at) cause (x.0, n + x.1) ≡ moved n (judged at cause x)
judged-moved n at None x = refl
judged-moved n at (Some cause) x = refl

go_on-moved : {A B S : Type 0} (n : ℕ) (r r' : Result (A × ℕ) (ℕ × S)) (f f' : A × ℕ → Result (B × ℕ) (ℕ × S))
    → r' ≡ moved n r → ((x : A × ℕ) → f' (x.0, n + x.1) ≡ moved n (f x)) → go_on r' f' ≡ moved n (go_on r f)
go_on-moved n (Ok x) r' f f' first second = rw first (second x)
go_on-moved n (Err s) r' f f' first second = rw first refl

read-moved : {C A : Type 0} (f : Format C A) (front w : List ℕ) (at : ℕ) → NoPlace f
    → read f (front ++ w) (length front + at) ≡ moved (length front) (read f w at)
read-moved (give x) front w at free = refl
read-moved place front w at free = absurd free
read-moved (since p) front w at free = absurd free
read-moved (field k cause) front w at free =
    ap (λ t. named (length front + at) cause (ahead (length front + at) (look k t))) (drop-append-add front w at)
    ∙ named-moved (length front) at cause (look k (drop at w))
read-moved (such_that f conditions) front w at free =
    go_on-moved (length front) (read f w at) (read f (front ++ w) (length front + at))
    (λ x. judged at (conditions x.0) x) (λ x. judged (length front + at) (conditions x.0) x)
    (read-moved f front w at free) (λ x. judged-moved (length front) at (conditions x.0) x)
read-moved (and_then f g) front w at free =
    go_on-moved (length front) (read f w at) (read f (front ++ w) (length front + at))
    (λ x. read (g x.0) w x.1) (λ x. read (g x.0) (front ++ w) x.1)
    (read-moved f front w at free.0) (λ x. read-moved (g x.0) front w x.1 (free.1 x.0))

-- what is read from a place is what the octets after it are read as
pub read-from : {C A : Type 0} (f : Format C A) (text : List ℕ) (at : ℕ) → at ≤ length text → NoPlace f
    → read f text at ≡ moved at (read f (drop at text) 0)
read-from f text at within free =
    let long : length (take at text) ≡ at = length-take-le at text within in
    let spot : at ≡ length (take at text) + 0 = omega (arith, long) in
    ap (λ t. read f t at) (sym (take-append-drop at text))
    ∙ ap (λ n. read f (take at text ++ drop at text) n) spot
    ∙ read-moved f (take at text) (drop at text) 0 free
    ∙ ap (λ n. moved n (read f (drop at text) 0)) long

pub found-from : {C A : Type 0} (f : Format C A) (text w more : List ℕ) (at n : ℕ) (x : A) → IsOctets text → at ≤ length text → NoPlace f
    → drop at text ≡ w ++ more → read f w 0 ≡ found x n → read f text at ≡ found x (at + n)
found-from f text w more at n x fits within free parts is =
    let few = (octets-parts (drop at text) w more parts (octets-drop at text fits)).0 in
    read-from f text at within free
    ∙ ap (λ t. moved at (read f t 0)) parts
    ∙ ap (moved at) (found-longer f w 0 n x few (omega arith) is more)

pub refused-from : {C A : Type 0} (f : Format C A) (text w more : List ℕ) (at p : ℕ) (cause : C) → IsOctets text → at ≤ length text → NoPlace f
    → drop at text ≡ w ++ more → read f w 0 ≡ stopped p (because cause) → read f text at ≡ stopped (at + p) (because cause)
refused-from f text w more at p cause fits within free parts is =
    let few = (octets-parts (drop at text) w more parts (octets-drop at text fits)).0 in
    read-from f text at within free
    ∙ ap (λ t. moved at (read f t 0)) parts
    ∙ ap (moved at) (read-stays f w more 0 few (omega arith) (rw is tt) ∙ is)

pub cut-from : {C A : Type 0} (f : Format C A) (text : List ℕ) (at p : ℕ) → at ≤ length text → NoPlace f
    → read f (drop at text) 0 ≡ stopped p truncated → read f text at ≡ stopped (at + p) truncated
cut-from f text at p within free is = read-from f text at within free ∙ ap (moved at) is

-- what octets don't end ends after them
pub ends-late : {C A : Type 0} (f : Format C A) (w more : List ℕ) (n p : ℕ) (x : A) → IsOctets (w ++ more)
    → read f w 0 ≡ stopped p truncated → read f (w ++ more) 0 ≡ found x n → length w < n
ends-late {C} {A} f w more n p x fits cut is =
    elim (cases_lt (length w) n) [
      | inl late ↦ late
      | inr early ↦
          let here = read-within f w more x n fits (omega (arith, early)) is in
          let no : found x n ≡ stopped p truncated = sym here ∙ cut in absurd (cc)
    ]

-- ---- how many octets fields take

-- fields take so many octets at most, and octets in which they end are fewer
pub record IsShort {C A : Type 0} (f : Format C A) (n : ℕ) : Type 0 where
  pub ends : (text : List ℕ) (at to : ℕ) (x : A) → IsOctets text → at ≤ length text → read f text at ≡ found x to
      → (to ≤ at + n) × (to ≤ length text)
  pub cut : (text : List ℕ) (at p : ℕ) → IsOctets text → at ≤ length text → read f text at ≡ stopped p truncated → length text < at + n

pub short-give : {C A : Type 0} (x : A) → IsShort {C = C} (give x) 0
short-give {C} {A} x = record {
  ends = λ text at to y fits within is.
      let same = found_is {E = ℕ × Stop C} x y at to is in (omega (arith, same.1), omega (arith, same.1, within));
  cut = λ text at p fits within is. let no : found x at ≡ stopped p truncated = is in absurd (cc);
}

pub short-octet : {C : Type 0} (cause : C) → IsShort (field octet cause) 1
short-octet cause = record {
  ends = λ text at to x fits within is.
      let there = read-found (field octet cause) text at x to fits within is in
      let long : length (take (to - at) (drop at text)) ≡ to - at =
      length-take-le (to - at) (drop at text) (omega (arith, there.within, length-drop at text)) in
      let one : length (take (to - at) (drop at text)) ≡ 1 = ap length there.spells in
      (omega (arith, long, one, there.behind), there.within);
  cut = λ text at p fits within is.
      let there = read-refused (field octet cause) text at p truncated fits within is in
      let none : length (drop at text) ≡ 0 = ap length there.1 in
      omega (arith, none, length-drop at text, within);
}

pub short-number : {C : Type 0} (cause : C) → IsShort (field number cause) 10
short-number cause = record {
  ends = λ text at to x fits within is.
      let there = read-found (field number cause) text at x to fits within is in
      let long : length (take (to - at) (drop at text)) ≡ to - at =
      length-take-le (to - at) (drop at text) (omega (arith, there.within, length-drop at text)) in
      (omega (arith, long, there.spells.short, there.behind), there.within);
  cut = λ text at p fits within is.
      let there = read-refused (field number cause) text at p truncated fits within is in
      omega (arith, there.1.few, length-drop at text, within);
}

pub short-that : {C A : Type 0} (f : Format C A) (conditions : A → Option C) (n : ℕ) → IsShort f n → IsShort (such_that f conditions) n
short-that {C} {A} f conditions n short = record {
  ends = λ text at to x fits within is.
      let (y, first, second) = go_on_ok (read f text at) (λ x. judged at (conditions x.0) x) (x, to) is in
      let same = judged-same at (conditions y.0) y x to second in
      rw same (short.ends text at y.1 y.0 fits within first);
  cut = λ text at p fits within is.
      elim (go_on_err (read f text at) (λ x. judged at (conditions x.0) x) (p, truncated) is) [
        | inl first ↦ short.cut text at p fits within first
        | inr later ↦ absurd (judged-never at p (conditions later.0.0) later.0 later.2)
      ];
}
  where
    judged-same : (at : ℕ) (cause : Option C) (y : A × ℕ) (x : A) (to : ℕ) → judged at cause y ≡ found x to → to ≡ y.1
    judged-same at None y x to is = sym (found_is {E = ℕ × Stop C} y.0 x y.1 to is).1
    judged-same at (Some cause) y x to is = absurd (cc)

    judged-never : (at p : ℕ) (cause : Option C) (y : A × ℕ) → judged at cause y ≡ stopped p truncated → ⊥
    judged-never at p None y is = let no : found y.0 y.1 ≡ stopped p truncated = is in absurd (cc)
    judged-never at p (Some cause) y is = let same = (stopped_is {A = A × ℕ} at p (because cause) truncated is).1 in absurd (cc)

pub short-then : {C A B : Type 0} (f : Format C A) (g : A → Format C B) (m n : ℕ) → IsShort f m → ((x : A) → IsShort (g x) n)
    → IsShort (and_then f g) (m + n)
short-then f g m n first second = record {
  ends = λ text at to x fits within is.
      let (y, here, there) = go_on_ok (read f text at) (λ x. read (g x.0) text x.1) (x, to) is in
      let low = first.ends text at y.1 y.0 fits within here in
      let high = (second y.0).ends text y.1 to x fits low.1 there in
      (omega (arith, low.0, high.0), high.1);
  cut = λ text at p fits within is.
      elim (go_on_err (read f text at) (λ x. read (g x.0) text x.1) (p, truncated) is) [
        | inl here ↦ let low = first.cut text at p fits within here in omega (arith, low)
        | inr later ↦
            let low = first.ends text at later.0.1 later.0.0 fits within later.1 in
            let high = (second later.0.0).cut text later.0.1 p fits low.1 later.2 in
            omega (arith, low.0, high)
      ];
}

pub short-more : {C A : Type 0} (f : Format C A) (m n : ℕ) → m ≤ n → IsShort f m → IsShort f n
short-more f m n more short = record {
  ends = λ text at to x fits within is. let low = short.ends text at to x fits within is in (omega (arith, low.0, more), low.1);
  cut = λ text at p fits within is. omega (arith, short.cut text at p fits within is, more);
}

pub short-choice : {C A : Type 0} (t : Bool) (f g : Format C A) (n : ℕ) → IsShort f n → IsShort g n → IsShort (choice t f g) n
short-choice true f g n first second = first
short-choice false f g n first second = second
