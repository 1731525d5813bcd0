-- When a face's link is open next.

use Rattle.std.proofs.Common.{◌≡◌, ℕ, ◌+◌, ◌<◌, ◌≤◌, Bool, true, false, ◌||◌, nat_lt, List, [], ◌∷◌, Option, None, Some, if◌then◌else◌, inl, inr, refl, sym, ap, ◌∙◌, subst, arith}
use Rattle.std.proofs.lemmas.Bool.{ltb-true, ltb-false}
use Rattle.std.proofs.lemmas.Bool.Decides.{nat_tests}
use Rattle.std.specs.List.{position_from}
use Rattle.contact_plan.specs.declared.window.Window.{Window}
use Rattle.contact_plan.specs.Windows.{AreInOrder, IsPlan, is_open, lies_in, next_from}
use Rattle.contact_plan.proofs.ContactLemmas.{closed-before, open-in-first, open-in-rest, outside-after, within}
use Rattle.outbox.specs.Laws.{IsOpenAt}
use Rattle.outbox.specs.Schedule.{ScheduleValue, contact_at}
use Rattle.peer_half.specs.Moments.{leaves_at, leaves_by}
use Rattle.peer_half.specs.Laws.{Leaves, LeavesWhenOpen}

-- ---- a moment that lies in a window, or in none

some-open : (n : ℕ) (ws : List Window) (t : ℕ) (i : ℕ) → position_from (λ w. lies_in w t) n ws ≡ Some i → is_open ws t ≡ true
some-open n [] t i is = absurd (cc)
some-open n (w ∷ ws) t i is = by (lies_in w t) is (λ at. some-open (n + 1) ws t i at)
  where
    by : (b : Bool) → (if b then Some n else position_from (λ w. lies_in w t) (n + 1) ws) ≡ Some i
        → (position_from (λ w. lies_in w t) (n + 1) ws ≡ Some i → is_open ws t ≡ true) → (b || is_open ws t) ≡ true
    by true is rest = refl
    by false is rest = rest is

none-open : (n : ℕ) (ws : List Window) (t : ℕ) → position_from (λ w. lies_in w t) n ws ≡ None → is_open ws t ≡ false
none-open n [] t is = refl
none-open n (w ∷ ws) t is = by (lies_in w t) is (λ at. none-open (n + 1) ws t at)
  where
    by : (b : Bool) → (if b then Some n else position_from (λ w. lies_in w t) (n + 1) ws) ≡ None
        → (position_from (λ w. lies_in w t) (n + 1) ws ≡ None → is_open ws t ≡ false) → (b || is_open ws t) ≡ false
    by true is rest = absurd (cc)
    by false is rest = rest is

-- a moment at which a plan is closed lies in none of its windows
record Closed (w : Window) (ws : List Window) (t : ℕ) : Type 0 where
  first : lies_in w t ≡ false
  others : is_open ws t ≡ false

closed-each : (w : Window) (ws : List Window) (t : ℕ) → is_open (w ∷ ws) t ≡ false → Closed w ws t
closed-each w ws t is = by (lies_in w t) refl (is_open ws t) refl is
  where
    by : (a : Bool) → lies_in w t ≡ a → (b : Bool) → is_open ws t ≡ b → (a || b) ≡ false → Closed w ws t
    by true at b rest is = absurd (cc)
    by false at true rest is = absurd (cc)
    by false at false rest is = record { first = at; others = rest }

-- a window that began, and that a moment doesn't lie in, has ended
ended : (w : Window) (t : ℕ) → w.from ≤ t → lies_in w t ≡ false → w.to ≤ t
ended w t began out = grind (arith, nat_tests, out, began)

begun : (w : Window) (t : ℕ) → nat_lt t w.from ≡ false → w.from ≤ t
begun w t not_after = ltb-false t w.from not_after

-- ---- no window begins after it

gone : (ws : List Window) (wall t : ℕ) → next_from ws wall ≡ None → is_open ws wall ≡ false → wall ≤ t → is_open ws t ≡ false
gone [] wall t none closed later = refl
gone (w ∷ ws) wall t none closed later =
    let each = closed-each w ws wall closed in
    by (nat_lt wall w.from) refl none each (λ at. gone ws wall t at each.others later)
  where
    by : (b : Bool) → nat_lt wall w.from ≡ b → (if b then Some w.from else next_from ws wall) ≡ None → Closed w ws wall
        → (next_from ws wall ≡ None → is_open ws t ≡ false) → is_open (w ∷ ws) t ≡ false
    by true at none each rest = absurd (cc)
    by false at none each rest =
        let over = ended w wall (begun w wall at) each.first in
        open-in-rest w ws t (outside-after w t (omega (arith, over, later))) ∙ rest none

-- ---- a window begins after it

record Next (ws : List Window) (wall begins : ℕ) : Type 0 where
  later : wall < begins
  closed : (t : ℕ) → wall ≤ t → t < begins → is_open ws t ≡ false
  open_then : is_open ws begins ≡ true

next : (end : ℕ) (ws : List Window) (wall begins : ℕ) → AreInOrder end ws → next_from ws wall ≡ Some begins → is_open ws wall ≡ false → Next ws wall begins
next end [] wall begins order is closed = absurd (cc)
next end (w ∷ ws) wall begins (after, some, small, rest) is closed =
    let each = closed-each w ws wall closed in
    by (nat_lt wall w.from) refl is each (λ at. next w.to ws wall begins rest at each.others)
  where
    here : wall < w.from → Next (w ∷ ws) wall w.from
    here low = record {
      later = low;
      closed = λ t from to. closed-before w.from (w ∷ ws) t (omega arith, some, small, rest) to;
      open_then = open-in-first w ws w.from (within w w.from (omega arith) some);
    }

    past : w.to ≤ wall → Next ws wall begins → Next (w ∷ ws) wall begins
    past over next = record {
      later = next.later;
      closed = λ t from to. open-in-rest w ws t (outside-after w t (omega (arith, over, from))) ∙ next.closed t from to;
      open_then =
          let far = next.later in
          open-in-rest w ws begins (outside-after w begins (omega (arith, over, far))) ∙ next.open_then;
    }

    by : (b : Bool) → nat_lt wall w.from ≡ b → (if b then Some w.from else next_from ws wall) ≡ Some begins → Closed w ws wall
        → (next_from ws wall ≡ Some begins → Next ws wall begins) → Next (w ∷ ws) wall begins
    by true at is each more =
        let same : w.from ≡ begins = cc in
        subst (λ (n : ℕ). Next (w ∷ ws) wall n) same (here (ltb-true wall w.from at))
    by false at is each more = past (ended w wall (begun w wall at) each.first) (more is)

-- ---- when what goes leaves

not-open : (s : ScheduleValue) (w : Window) (ws : List Window) (t : ℕ) → s.windows ≡ w ∷ ws → is_open s.windows t ≡ false → IsOpenAt s t → ⊥
not-open s w ws t some closed (inl none) = absurd (cc)
not-open s w ws t some closed (inr is) = absurd (cc)

leaves-by : (s : ScheduleValue) (w : Window) (ws : List Window) (wall : ℕ) → s.windows ≡ w ∷ ws → IsPlan s.windows
    → (contact begins : Option ℕ) → position_from (λ w. lies_in w wall) 0 (w ∷ ws) ≡ contact → next_from s.windows wall ≡ begins
    → Leaves s wall (leaves_by contact begins wall)
leaves-by s w ws wall some plan (Some contact) begins at found = record {
  later = omega arith;
  closed = λ t from to. absurd (omega (arith, from, to));
  open_then = inl (inr (ap (λ ws. is_open ws wall) some ∙ some-open 0 (w ∷ ws) wall contact at));
}
leaves-by s w ws wall some plan None None at found = record {
  later = omega arith;
  closed = λ t from to. absurd (omega (arith, from, to));
  open_then = inr (λ t from. not-open s w ws t some
      (gone s.windows wall t found (ap (λ ws. is_open ws wall) some ∙ none-open 0 (w ∷ ws) wall at) from));
}
leaves-by s w ws wall some plan None (Some begins) at found =
    let following = next 0 s.windows wall begins plan.order found (ap (λ ws. is_open ws wall) some ∙ none-open 0 (w ∷ ws) wall at) in
    let later = following.later in
    record {
      later = omega (arith, later);
      closed = λ t from to. not-open s w ws t some (following.closed t from to);
      open_then = inl (inr following.open_then);
    }

leaves-in : (s : ScheduleValue) (wall : ℕ) (windows : List Window) → s.windows ≡ windows → IsPlan s.windows → Leaves s wall (leaves_at s wall)
leaves-in s wall [] none plan =
    subst (λ leaves. Leaves s wall leaves) (sym now) (record {
      later = omega arith;
      closed = λ t from to. absurd (omega (arith, from, to));
      open_then = inl (inl none);
    })
  where
    now : leaves_at s wall ≡ wall
    now = rw none refl
leaves-in s wall (w ∷ ws) some plan =
    subst (λ (contact : Option ℕ). Leaves s wall (leaves_by contact (next_from s.windows wall) wall)) (sym (same))
    (leaves-by s w ws wall some plan (position_from (λ w. lies_in w wall) 0 (w ∷ ws)) (next_from s.windows wall) refl refl)
  where
    same : contact_at s wall ≡ position_from (λ w. lies_in w wall) 0 (w ∷ ws)
    same = rw some refl

pub leaves-when-open : LeavesWhenOpen
leaves-when-open s wall plan = leaves-in s wall s.windows refl plan
