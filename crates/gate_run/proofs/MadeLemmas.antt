-- What is made, stage after stage.

use Rattle.std.proofs.Common.{◌≡◌, ℕ, zero, suc, ◌-◌, ◌<◌, Bool, true, false, List, [], ◌∷◌, ◌++◌, Option, None, Some, Result, Ok, Err, IsErrAnd, refl, sym, ◌∙◌, ap, append_assoc, arith, if◌then◌else◌}
use Rattle.std.proofs.lemmas.Grind.{flat_map-append}
use Rattle.edge_traits.specs.Content.{Gains, GainsFront}
use Rattle.edge_traits.proofs.ContentLemmas.{Gains-none, Gains-more}
use Rattle.gate_edges.specs.Ahead.{Ahead}
use Rattle.gate_edges.specs.Made.{Made}
use Rattle.peer_half.specs.Standing.{Standing}
use Rattle.peer_half.specs.Acts.{Act}
use Rattle.gate_run.specs.Course.{Point}
use Rattle.gate_run.specs.Outcome.{made_by, made_by_all}
use Rattle.gate_run.specs.Stages.{IsAt, Reached, Leads, Goes, and_on, stays}

-- ---- small things

pub if-true : {X : Type 0} (b : Bool) (x y : X) → b ≡ true → (if b then x else y) ≡ x
if-true true x y is = refl
if-true false x y is = absurd (cc)

pub if-false : {X : Type 0} (b : Bool) (x y : X) → b ≡ false → (if b then x else y) ≡ y
if-false true x y is = absurd (cc)
if-false false x y is = refl

pub one-less : (left : ℕ) → 0 < left → left ≡ suc (left - 1)
one-less zero some = absurd (omega arith)
one-less (suc n) some = omega arith

-- code answered this fault
pub err-is : {X E : Type 0} (result : Result X E) (e : E) → IsErrAnd result (λ f. f ≡ e) → result ≡ Err e
err-is (Ok x) e is = absurd is
err-is (Err f) e is = ap (λ v. Err v) is

-- ---- fronts

-- a front of what is made after something else
pub front-after : {X : Type 0} (a b c : Option (List X)) (xs ys : List X)
    → Gains a b xs → GainsFront b c ys → GainsFront a c (xs ++ ys)
front-after a b None xs ys first second = tt
front-after a None (Some now) xs ys first second = absurd second
front-after None (Some mid) (Some now) xs ys first second = absurd first
front-after (Some before) (Some mid) (Some now) xs ys first (front, rest, whole, is) = (
  xs ++ front,
  rest,
  ap (λ v. xs ++ v) whole ∙ sym (append_assoc xs front rest),
  is ∙ ap (λ v. v ++ front) first ∙ append_assoc before xs front,
)

-- a front of what is made before something else
pub front-before : {X : Type 0} (a b : Option (List X)) (xs ys : List X)
    → GainsFront a b xs → GainsFront a b (xs ++ ys)
front-before a None xs ys front = tt
front-before None (Some now) xs ys front = absurd front
front-before (Some before) (Some now) xs ys (front, rest, whole, is) =
    (front, rest ++ ys, ap (λ v. v ++ ys) whole ∙ append_assoc front rest ys, is)

-- all of it is a front
pub front-all : {X : Type 0} (a b : Option (List X)) (xs : List X) → Gains a b xs → GainsFront a b xs
front-all a None xs gains = tt
front-all None (Some now) xs gains = absurd gains
front-all (Some before) (Some now) xs gains = (xs, [], sym (append-nil xs), gains)
  where
    append-nil : {X : Type 0} (ys : List X) → ys ++ [] ≡ ys
    append-nil [] = refl
    append-nil (y ∷ ys) = ap (λ v. y ∷ v) (append-nil ys)

-- ---- acts

pub made-append : (first second : List Act) → made_by_all (first ++ second) ≡ made_by_all first ++ made_by_all second
made-append first second = flat_map-append made_by first second

pub made-more : (first second : List Act) (a b c : Option (List Made))
    → Gains a b (made_by_all first) → Gains b c (made_by_all second) → Gains a c (made_by_all (first ++ second))
made-more first second a b c gains more =
    rw (made-append first second) (Gains-more a b c (made_by_all first) (made_by_all second) gains more)

pub made-after : (first second : List Act) (a b c : Option (List Made))
    → Gains a b (made_by_all first) → GainsFront b c (made_by_all second) → GainsFront a c (made_by_all (first ++ second))
made-after first second a b c gains front =
    rw (made-append first second) (front-after a b c (made_by_all first) (made_by_all second) gains front)

pub made-before : (first second : List Act) (a b : Option (List Made))
    → GainsFront a b (made_by_all first) → GainsFront a b (made_by_all (first ++ second))
made-before first second a b front =
    rw (made-append first second) (front-before a b (made_by_all first) (made_by_all second) front)

-- ---- stages

-- nothing was made
pub leads-stay : (Shows : Standing → Type 0) (p : Point) (ahead : Option Ahead) (before now : Option (List Made))
    → IsAt Shows ahead p → now ≡ before → Leads Shows (stays p) ahead before now
leads-stay Shows p ahead before now at same = record { at = at; made = rw same (Gains-none before) }

-- one stage, and then another
pub leads-on : (Shows : Standing → Type 0) (first : Reached) (next : Point → Reached) (ahead : Option Ahead) (a b c : Option (List Made))
    → Gains a b (made_by_all first.acts) → Leads Shows (next first.point) ahead b c
    → Leads Shows (and_on first next) ahead a c
leads-on Shows first next ahead a b c gains more = record {
  at = record { shown = more.at.shown; told = more.at.told };
  made = made-more first.acts (next first.point).acts a b c gains more.made;
}

-- the same of code that may stop in the second
pub goes-on : {X E : Type 0} (Shows : Standing → Type 0) (first : Reached) (next : Point → Reached) (result : Result X E) (ahead : Option Ahead) (a b c : Option (List Made))
    → Gains a b (made_by_all first.acts) → Goes Shows (next first.point) result ahead b c
    → Goes Shows (and_on first next) result ahead a c
goes-on Shows first next (Ok x) ahead a b c gains more = leads-on Shows first next ahead a b c gains more
goes-on Shows first next (Err e) ahead a b c gains more = made-after first.acts (next first.point).acts a b c gains more

-- it stopped in the first
pub stops-first : (first : Reached) (next : Point → Reached) (a b : Option (List Made))
    → GainsFront a b (made_by_all first.acts) → GainsFront a b (made_by_all (and_on first next).acts)
stops-first first next a b front = made-before first.acts (next first.point).acts a b front

pub goes-err : {X E : Type 0} (Shows : Standing → Type 0) (reached : Reached) (result : Result X E) (e : E) (ahead : Option Ahead) (before now : Option (List Made))
    → result ≡ Err e → GainsFront before now (made_by_all reached.acts) → Goes Shows reached result ahead before now
goes-err Shows reached result e ahead before now is front = rw is front
