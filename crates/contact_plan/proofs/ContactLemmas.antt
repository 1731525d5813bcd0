-- Contact time, over any windows and over windows in order.

use Rattle.std.proofs.Common.{◌≡◌, ℕ, zero, suc, ◌+◌, ◌-◌, ◌<◌, ◌≤◌, ◌^◌, true, false, List, [], ◌∷◌, refl, sym, ◌∙◌, arith, subst, inl, inr, ◌⊎◌}
use Rattle.std.proofs.lemmas.Bool.Decides.{nat_tests}
use Rattle.std.proofs.lemmas.Bool.{cases_lt}
use Rattle.contact_plan.specs.declared.window.Window.{Window}
use Rattle.contact_plan.specs.Laws.{ContactGoesOn, ContactHasMoments, ContactIsBounded, HasMoment, MomentsAreApart}
use Rattle.contact_plan.specs.Windows.{AreInOrder, IsMoment, elapsed, is_open, lies_in, total}

-- ---- step by step

open-counts : (windows : List Window) (t : ℕ) → is_open windows t ≡ true → elapsed windows (suc t) ≡ 1 + elapsed windows t
unfolding elapsed
open-counts windows t is = rw is refl

pub closed-stands : (windows : List Window) (t : ℕ) → is_open windows t ≡ false → elapsed windows (suc t) ≡ elapsed windows t
unfolding elapsed
closed-stands windows t is = rw is (omega arith)

none-before : (windows : List Window) → elapsed windows zero ≡ 0
unfolding elapsed
none-before windows = refl

pub bool-cases : (b : _) → (b ≡ true) ⊎ (b ≡ false)
bool-cases true = inl refl
bool-cases false = inr refl

step-up : (windows : List Window) (t : ℕ) → elapsed windows t ≤ elapsed windows (suc t)
step-up windows t = elim (bool-cases (is_open windows t)) [
  | inl is ↦ (let one = open-counts windows t is in omega (arith, one))
  | inr is ↦ (let same = closed-stands windows t is in omega (arith, same))
]

step-by-one : (windows : List Window) (t : ℕ) → elapsed windows (suc t) ≤ elapsed windows t + 1
step-by-one windows t = elim (bool-cases (is_open windows t)) [
  | inl is ↦ (let one = open-counts windows t is in omega (arith, one))
  | inr is ↦ (let same = closed-stands windows t is in omega (arith, same))
]

-- a later moment has no earlier contact time
pub elapsed-up : (windows : List Window) (t u : ℕ) → t ≤ u → elapsed windows t ≤ elapsed windows u
elapsed-up windows t zero le = let same : t ≡ 0 = omega (arith, le) in rw same (omega arith)
elapsed-up windows t (suc u) le = elim (cases_lt t (suc u)) [
  | inl low ↦ (let rest = elapsed-up windows t u (omega (arith, low)) in let more = step-up windows u in omega (arith, rest, more))
  | inr high ↦ (let same : t ≡ suc u = omega (arith, le, high) in rw same (omega arith))
]

-- and a moment after an open one has a later one
pub elapsed-on : (windows : List Window) (t u : ℕ) → is_open windows t ≡ true → t < u → elapsed windows t < elapsed windows u
elapsed-on windows t u is low =
    let one = open-counts windows t is in
    let rest = elapsed-up windows (suc t) u (omega (arith, low)) in
    omega (arith, one, rest)

pub elapsed-le : (windows : List Window) (t : ℕ) → elapsed windows t ≤ t
elapsed-le windows zero = let none = none-before windows in omega (arith, none)
elapsed-le windows (suc t) = let rest = elapsed-le windows t in let more = step-by-one windows t in omega (arith, rest, more)

pub contact-goes-on : ContactGoesOn
contact-goes-on windows t u = (elapsed-up windows t u, elapsed-on windows t u)

-- the moment of a contact time that a clock has reached isn't before that clock
pub moment-after : (windows : List Window) (contact t moment : ℕ) → IsMoment windows contact moment → elapsed windows t ≤ contact → t ≤ moment
moment-after windows contact t moment is reached = elim (cases_lt moment t) [
  | inl low ↦ absurd (let more = elapsed-on windows moment t is.is_in low in let same = is.below in omega (arith, more, same, reached))
  | inr high ↦ omega (arith, high)
]

-- moments rise with their contact times
pub moments-up : (windows : List Window) (c d t u : ℕ) → IsMoment windows c t → IsMoment windows d u → c ≤ d → t ≤ u
moments-up windows c d t u one other le = moment-after windows d t u other (let same = one.below in omega (arith, same, le))

pub moments-same : (windows : List Window) (c t u : ℕ) → IsMoment windows c t → IsMoment windows c u → t ≡ u
moments-same windows c t u one other =
    let up = moments-up windows c c t u one other (omega arith) in
    let down = moments-up windows c c u t other one (omega arith) in
    omega (arith, up, down)

-- ---- one window

pub within : (w : Window) (t : ℕ) → w.from ≤ t → t < w.to → is_open (w ∷ []) t ≡ true
within w t since before = grind (arith, nat_tests)

pub outside-before : (w : Window) (t : ℕ) → t < w.from → is_open (w ∷ []) t ≡ false
outside-before w t low = grind (arith, nat_tests)

pub outside-after : (w : Window) (t : ℕ) → w.to ≤ t → is_open (w ∷ []) t ≡ false
outside-after w t high = grind (arith, nat_tests)

pub one-before : (w : Window) (t : ℕ) → t ≤ w.from → elapsed (w ∷ []) t ≡ 0
one-before w zero le = none-before (w ∷ [])
one-before w (suc t) le = closed-stands (w ∷ []) t (outside-before w t (omega (arith, le))) ∙ one-before w t (omega (arith, le))

pub one-in : (w : Window) (t : ℕ) → w.from ≤ t → t ≤ w.to → elapsed (w ∷ []) t ≡ t - w.from
one-in w zero since le = none-before (w ∷ []) ∙ omega arith
one-in w (suc t) since le = elim (cases_lt t w.from) [
  | inl low ↦ (let none = one-before w (suc t) (omega (arith, low)) in omega (arith, none, low, since))
  | inr high ↦ (
      let one = open-counts (w ∷ []) t (within w t (omega (arith, high)) (omega (arith, le))) in
      let rest = one-in w t (omega (arith, high)) (omega (arith, le)) in
      omega (arith, one, rest, high)
      )
]

pub one-after : (w : Window) (t : ℕ) → w.from ≤ w.to → w.to ≤ t → elapsed (w ∷ []) t ≡ w.to - w.from
one-after w zero order high = one-in w zero (omega (arith, order, high)) (omega (arith, high)) ∙ omega (arith, order, high)
one-after w (suc t) order high = elim (cases_lt t w.to) [
  | inl low ↦ (let same : suc t ≡ w.to = omega (arith, low, high) in one-in w (suc t) (omega (arith, order, high)) (omega (arith, same)) ∙ omega (arith, same))
  | inr far ↦ closed-stands (w ∷ []) t (outside-after w t (omega (arith, far))) ∙ one-after w t order (omega (arith, far))
]

-- ---- windows in order

pub closed-before : (end : ℕ) (windows : List Window) (t : ℕ) → AreInOrder end windows → t < end → is_open windows t ≡ false
closed-before end [] t order low = refl
closed-before end (w ∷ ws) t order low =
    let none = closed-before w.to ws t order.3 (let a = order.0 in let c = order.1 in omega (arith, a, c, low)) in
    rw none (outside-before w t (let a = order.0 in omega (arith, a, low)))

pub none-until : (end : ℕ) (windows : List Window) (t : ℕ) → AreInOrder end windows → t ≤ end → elapsed windows t ≡ 0
none-until end windows zero order le = none-before windows
none-until end windows (suc t) order le =
    closed-stands windows t (closed-before end windows t order (omega (arith, le))) ∙ none-until end windows t order (omega (arith, le))

-- a moment lies in the first window or in one after it
pub open-in-first : (w : Window) (ws : List Window) (t : ℕ) → is_open (w ∷ []) t ≡ true → is_open (w ∷ ws) t ≡ true
open-in-first w ws t is = by (lies_in w t) refl where
  by : (b : _) → lies_in w t ≡ b → is_open (w ∷ ws) t ≡ true
  by true lies = rw lies refl
  by false lies = absurd (let outside : is_open (w ∷ []) t ≡ false = rw lies refl in cc)

pub open-in-rest : (w : Window) (ws : List Window) (t : ℕ) → is_open (w ∷ []) t ≡ false → is_open (w ∷ ws) t ≡ is_open ws t
open-in-rest w ws t is = by (lies_in w t) refl where
  by : (b : _) → lies_in w t ≡ b → is_open (w ∷ ws) t ≡ is_open ws t
  by true lies = absurd (let inside : is_open (w ∷ []) t ≡ true = rw lies refl in cc)
  by false lies = rw lies refl

-- the moments below t in the first window and those in the others
pub elapsed-cons : (end : ℕ) (w : Window) (ws : List Window) (t : ℕ) → AreInOrder end (w ∷ ws) → elapsed (w ∷ ws) t ≡ elapsed (w ∷ []) t + elapsed ws t
elapsed-cons end w ws zero order =
    let a = none-before (w ∷ ws) in let b = none-before (w ∷ []) in let c = none-before ws in omega (arith, a, b, c)
elapsed-cons end w ws (suc t) order = elim (bool-cases (is_open (w ∷ []) t)) [
  | inl is ↦ (
      let low : t < w.to = elim (cases_lt t w.to) [ inl below ↦ below | inr above ↦ absurd (let out = outside-after w t (omega (arith, above)) in cc) ] in
      let a = open-counts (w ∷ ws) t (open-in-first w ws t is) in
      let b = open-counts (w ∷ []) t is in
      let c = closed-stands ws t (closed-before w.to ws t order.3 low) in
      let rest = elapsed-cons end w ws t order in
      omega (arith, a, b, c, rest)
      )
  | inr out ↦ (
      let b = closed-stands (w ∷ []) t out in
      let rest = elapsed-cons end w ws t order in
      elim (bool-cases (is_open ws t)) [
        | inl later ↦ (
            let a = open-counts (w ∷ ws) t (open-in-rest w ws t out ∙ later) in
            let c = open-counts ws t later in
            omega (arith, a, b, c, rest)
            )
        | inr never ↦ (
            let a = closed-stands (w ∷ ws) t (open-in-rest w ws t out ∙ never) in
            let c = closed-stands ws t never in
            omega (arith, a, b, c, rest)
            )
      ]
      )
]

-- contact time is at most the sum of the windows
elapsed-total : (end : ℕ) (windows : List Window) (t : ℕ) → AreInOrder end windows → elapsed windows t ≤ total windows
elapsed-total end [] zero order = let none = none-before [] in omega (arith, none)
elapsed-total end [] (suc t) order = let none = closed-stands [] t refl in let rest = elapsed-total end [] t order in omega (arith, none, rest)
elapsed-total end (w ∷ ws) t order =
    let cons = elapsed-cons end w ws t order in
    let rest = elapsed-total w.to ws t order.3 in
    let low = order.1 in
    elim (cases_lt t w.to) [
      | inl before ↦ elim (cases_lt t w.from) [
        | inl early ↦ (let one = one-before w t (omega (arith, early)) in omega (arith, cons, rest, one))
        | inr since ↦ (let one = one-in w t (omega (arith, since)) (omega (arith, before)) in omega (arith, cons, rest, one, before))
      ]
      | inr past ↦ (let one = one-after w t (omega (arith, low)) (omega (arith, past)) in omega (arith, cons, rest, one))
    ]

pub contact-is-bounded : ContactIsBounded
contact-is-bounded windows t plan = (elapsed-le windows t, elapsed-total 0 windows t plan.order)

pub moments-are-apart : MomentsAreApart
moments-are-apart windows contact t u plan is = (
  (let more = open-counts windows t is.is_in in
      let most = elapsed-total 0 windows (suc t) plan.order in
      let same = is.below in
      omega (arith, more, most, same)),
  λ other. moments-same windows contact t u is other,
)

-- an open moment comes before 2^62
pub open-early : (end : ℕ) (windows : List Window) (t : ℕ) → AreInOrder end windows → is_open windows t ≡ true → t < 2 ^ 62
open-early end [] t order is = absurd (cc)
open-early end (w ∷ ws) t order is = elim (bool-cases (is_open (w ∷ []) t)) [
  | inl one ↦ elim (cases_lt t w.to) [
    | inl low ↦ (let end_low = order.2 in omega (arith, low, end_low))
    | inr far ↦ absurd (let out = outside-after w t (omega (arith, far)) in cc)
  ]
  | inr out ↦ open-early w.to ws t order.3 (sym (open-in-rest w ws t out) ∙ is)
]

-- ---- each contact time below the sum of the windows has a moment

pub in-first : (end : ℕ) (w : Window) (ws : List Window) (contact : ℕ) → AreInOrder end (w ∷ ws) → contact < w.to - w.from → IsMoment (w ∷ ws) contact (w.from + contact)
in-first end w ws contact order low =
    let before : w.from + contact < w.to = omega (arith, low) in record {
      is_in = open-in-first w ws (w.from + contact) (within w (w.from + contact) (omega arith) before);
      below =
          let cons = elapsed-cons end w ws (w.from + contact) order in
          let one = one-in w (w.from + contact) (omega arith) (omega (arith, before)) in
          let none = none-until w.to ws (w.from + contact) order.3 (omega (arith, before)) in
          omega (arith, cons, one, none);
    }

pub in-others : (end : ℕ) (w : Window) (ws : List Window) (contact t : ℕ) → AreInOrder end (w ∷ ws) → IsMoment ws contact t → IsMoment (w ∷ ws) ((w.to - w.from) + contact) t
in-others end w ws contact t order is =
    let low = order.1 in
    let past : w.to ≤ t = elim (cases_lt t w.to) [
      | inl before ↦ absurd (let out = closed-before w.to ws t order.3 before in let inside = is.is_in in cc)
      | inr after ↦ omega (arith, after)
    ] in record {
      is_in = open-in-rest w ws t (outside-after w t past) ∙ is.is_in;
      below =
          let cons = elapsed-cons end w ws t order in
          let one = one-after w t (omega (arith, low)) past in
          let rest = is.below in
          omega (arith, cons, one, rest);
    }

has-moment : (end : ℕ) (windows : List Window) (contact : ℕ) → AreInOrder end windows → contact < total windows → HasMoment windows contact
has-moment end [] contact order low = absurd (omega (arith, low))
has-moment end (w ∷ ws) contact order low = elim (cases_lt contact (w.to - w.from)) [
  | inl first ↦ record { moment = w.from + contact; is = in-first end w ws contact order first }
  | inr later ↦ (
      let rest = has-moment w.to ws (contact - (w.to - w.from)) order.3 (omega (arith, low, later)) in
      let same : (w.to - w.from) + (contact - (w.to - w.from)) ≡ contact = omega (arith, later) in
      record { moment = rest.moment; is = subst (λ n. IsMoment (w ∷ ws) n rest.moment) same (in-others end w ws (contact - (w.to - w.from)) rest.moment order rest.is) }
      )
]

pub contact-has-moments : ContactHasMoments
contact-has-moments windows contact plan low = has-moment 0 windows contact plan.order low
