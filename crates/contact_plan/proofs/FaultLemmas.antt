-- Which windows have no fault, and what a window more makes of them.

use Rattle.std.proofs.Common.{◌≡◌, ℕ, ◌+◌, ◌-◌, ◌<◌, ◌≤◌, ◌^◌, true, false, List, [], ◌∷◌, ◌++◌, length, nat_lt, Option, None, Some, if◌then◌else◌, refl, sym, ap, ◌∙◌, arith, inl, inr}
use Rattle.std.proofs.lemmas.Bool.Decides.{nat_tests}
use Rattle.std.proofs.lemmas.Bool.{and_parts, cases_lt, leb-true, ltb-true, le-leb, lt-ltb}
use Rattle.std.proofs.lemmas.List.{length-append, length-map}
use Rattle.std.specs.Option.{option_map}
use Rattle.contact_plan.specs.declared.fault.PlanFault.TheVariants as causes
use Rattle.contact_plan.specs.declared.kept.Kept.{Kept}
use Rattle.contact_plan.specs.declared.window.Window.{Window}
use Rattle.contact_plan.specs.Fault.{first_misplaced, may_follow, plan_fault}
use Rattle.contact_plan.specs.Kept.{AreKept, IsKept, last_from, windows_of}
use Rattle.contact_plan.specs.Laws.{FaultlessIsPlan}
use Rattle.contact_plan.specs.Windows.{AreInOrder, IsPlan}

-- ---- a window after others

pub record Follows (end : ℕ) (w : Window) : Type 0 where
  pub since : end ≤ w.from
  pub order : w.from < w.to
  pub early : w.to ≤ 2 ^ 62

pub follows : (end : ℕ) (w : Window) → may_follow end w ≡ true → Follows end w
follows end w is =
    let (first, rest) = and_parts _ _ is in
    let (second, third) = and_parts _ _ rest in record {
      since = leb-true end w.from first;
      order = ltb-true w.from w.to second;
      early = leb-true w.to (2 ^ 62) third;
    }

follows-back : (end : ℕ) (w : Window) → end ≤ w.from → w.from < w.to → w.to ≤ 2 ^ 62 → may_follow end w ≡ true
follows-back end w since order early = rw (le-leb end w.from since, lt-ltb w.from w.to order, le-leb w.to (2 ^ 62) early) refl

-- ---- none is misplaced

in-order : (index end : ℕ) (windows : List Window) → first_misplaced index end windows ≡ None → AreInOrder end windows
in-order index end [] none = tt
in-order index end (w ∷ ws) none = by (may_follow end w) refl (in-order (index + 1) w.to ws) where
  by : (b : _) → may_follow end w ≡ b → (first_misplaced (index + 1) w.to ws ≡ None → AreInOrder w.to ws) → AreInOrder end (w ∷ ws)
  by true is rest =
      let f = follows end w is in
      (f.since, f.order, f.early, rest (sym (ap (λ b. if b then first_misplaced (index + 1) w.to ws else Some index) is) ∙ none))
  by false is rest = absurd (let some : first_misplaced index end (w ∷ ws) ≡ Some index = rw is refl in cc)

none-misplaced : (index end : ℕ) (windows : List Window) → AreInOrder end windows → first_misplaced index end windows ≡ None
none-misplaced index end [] order = refl
none-misplaced index end (w ∷ ws) order = rw (follows-back end w order.0 order.1 order.2) (none-misplaced (index + 1) w.to ws order.3)

few-fault : (windows : List Window) → length windows ≤ 4096 → plan_fault windows ≡ option_map causes.Order (first_misplaced 0 0 windows)
few-fault windows few = let is : nat_lt 4096 (length windows) ≡ false = grind (arith, nat_tests) in rw is refl

many-fault : (windows : List Window) → 4096 < length windows → plan_fault windows ≡ Some causes.TooMany
many-fault windows many = let is : nat_lt 4096 (length windows) ≡ true = grind (arith, nat_tests) in rw is refl

faultless-order : (o : Option ℕ) → option_map causes.Order o ≡ None → o ≡ None
faultless-order None is = refl
faultless-order (Some i) is = absurd (cc)

pub faultless-plan : (windows : List Window) → plan_fault windows ≡ None → IsPlan windows
faultless-plan windows none = by (nat_lt 4096 (length windows)) refl where
  by : (b : _) → nat_lt 4096 (length windows) ≡ b → IsPlan windows
  by true is = absurd (let some : plan_fault windows ≡ Some causes.TooMany = rw is refl in cc)
  by false is =
      let few : length windows ≤ 4096 = grind (arith, nat_tests) in record {
        few = few;
        order = in-order 0 0 windows (faultless-order (first_misplaced 0 0 windows) (sym (few-fault windows few) ∙ none));
      }

pub plan-faultless : (windows : List Window) → IsPlan windows → plan_fault windows ≡ None
plan-faultless windows plan = few-fault windows plan.few ∙ ap (option_map causes.Order) (none-misplaced 0 0 windows plan.order)

pub faultless-is-plan : FaultlessIsPlan
faultless-is-plan windows = (faultless-plan windows, plan-faultless windows)

-- ---- a window more

misplaced-append : (index end contact : ℕ) (ps : List Kept) (w : Window) → AreKept end contact ps
    → first_misplaced index end (windows_of ps ++ w ∷ []) ≡ (if may_follow (last_from end contact ps).0 w then None else Some (index + length ps))
misplaced-append index end contact [] w kept = ap (λ i. if may_follow end w then None else Some i) (omega arith)
misplaced-append index end contact (p ∷ ps) w kept =
    rw (follows-back end p.window kept.0 kept.1 kept.2)
    (misplaced-append (index + 1) (p.window).to p.contact ps w kept.4
    ∙ ap (λ i. if may_follow (last_from (p.window).to p.contact ps).0 w then None else Some i) (omega arith))

length-more : (ps : List Kept) (w : Window) → length (windows_of ps ++ w ∷ []) ≡ length ps + 1
length-more ps w = length-append (windows_of ps) (w ∷ []) ∙ ap (λ n. n + 1) (length-map ps (λ k. k.window))

pub many-more : (ps : List Kept) (w : Window) → 4096 ≤ length ps → plan_fault (windows_of ps ++ w ∷ []) ≡ Some causes.TooMany
many-more ps w many = many-fault (windows_of ps ++ w ∷ []) (let is = length-more ps w in omega (arith, is, many))

few-more : (ps : List Kept) (w : Window) → AreKept 0 0 ps → length ps < 4096
    → plan_fault (windows_of ps ++ w ∷ []) ≡ option_map causes.Order (if may_follow (last_from 0 0 ps).0 w then None else Some (length ps))
few-more ps w kept few =
    few-fault (windows_of ps ++ w ∷ []) (let is = length-more ps w in omega (arith, is, few))
    ∙ ap (option_map causes.Order) (misplaced-append 0 0 0 ps w kept ∙ ap (λ i. if may_follow (last_from 0 0 ps).0 w then None else Some i) (omega arith))

pub order-more : (ps : List Kept) (w : Window) → AreKept 0 0 ps → length ps < 4096 → may_follow (last_from 0 0 ps).0 w ≡ false
    → plan_fault (windows_of ps ++ w ∷ []) ≡ Some (causes.Order (length ps))
order-more ps w kept few is = few-more ps w kept few ∙ ap (λ b. option_map causes.Order (if b then None else Some (length ps))) is

pub none-more : (ps : List Kept) (w : Window) → AreKept 0 0 ps → length ps < 4096 → may_follow (last_from 0 0 ps).0 w ≡ true
    → plan_fault (windows_of ps ++ w ∷ []) ≡ None
none-more ps w kept few is = few-more ps w kept few ∙ ap (λ b. option_map causes.Order (if b then None else Some (length ps))) is

-- ---- what is kept with it

pub last-low : (end contact : ℕ) (ps : List Kept) → AreKept end contact ps → contact ≤ end → (last_from end contact ps).1 ≤ (last_from end contact ps).0
last-low end contact [] kept le = le
last-low end contact (p ∷ ps) kept le =
    last-low (p.window).to p.contact ps kept.4 (let a = kept.0 in let b = kept.1 in let c = kept.3 in omega (arith, a, b, c, le))

pub kept-more : (end contact : ℕ) (ps : List Kept) (k : Kept) → AreKept end contact ps → may_follow (last_from end contact ps).0 k.window ≡ true
    → k.contact ≡ (last_from end contact ps).1 + ((k.window).to - (k.window).from) → AreKept end contact (ps ++ k ∷ [])
kept-more end contact [] k kept may is = let f = follows end k.window may in (f.since, f.order, f.early, is, tt)
kept-more end contact (p ∷ ps) k kept may is = (kept.0, kept.1, kept.2, kept.3, kept-more (p.window).to p.contact ps k kept.4 may is)

pub is-kept-more : (ps : List Kept) (k : Kept) → IsKept ps → length ps < 4096 → may_follow (last_from 0 0 ps).0 k.window ≡ true
    → k.contact ≡ (last_from 0 0 ps).1 + ((k.window).to - (k.window).from) → IsKept (ps ++ k ∷ [])
is-kept-more ps k kept few may is = record {
  few = let more = length-append ps (k ∷ []) in omega (arith, more, few);
  order = kept-more 0 0 ps k kept.order may is;
}

-- a window with which a plan has no fault
pub record Joins (ps : List Kept) (w : Window) : Type 0 where
  pub few : length ps < 4096
  pub may : may_follow (last_from 0 0 ps).0 w ≡ true

pub joins : (ps : List Kept) (w : Window) → AreKept 0 0 ps → plan_fault (windows_of ps ++ w ∷ []) ≡ None → Joins ps w
joins ps w kept none = record { few = few; may = by (may_follow (last_from 0 0 ps).0 w) refl } where
  few : length ps < 4096
  few = elim (cases_lt (length ps) 4096) [
    | inl low ↦ low
    | inr high ↦ absurd (let many = many-more ps w (omega (arith, high)) in cc)
  ]

  by : (b : _) → may_follow (last_from 0 0 ps).0 w ≡ b → may_follow (last_from 0 0 ps).0 w ≡ true
  by true is = is
  by false is = absurd (let some = order-more ps w kept few is in cc)

-- there is room for the contact time at its end
pub joins-room : (ps : List Kept) (w : Window) → AreKept 0 0 ps → Joins ps w → (last_from 0 0 ps).1 + (w.to - w.from) < 2 ^ 64
joins-room ps w kept j =
    let f = follows (last_from 0 0 ps).0 w j.may in
    let low = last-low 0 0 ps kept (omega arith) in
    let since = f.since in
    let early = f.early in
    let order = f.order in
    omega (arith, low, since, early, order)
