-- Runs of a memory.

use Rattle.std.proofs.Common.{◌≡◌, ℕ, ◌+◌, ◌-◌, ◌<◌, ◌≤◌, ◌==◌, Bool, true, false, ◌||◌, if◌then◌else◌, List, [], ◌∷◌, Some, None, ◌⊎◌, inl, inr, refl, sym, ◌∙◌, subst, arith, eqb-true}
use Rattle.std.proofs.lemmas.Bool.{leb-true, leb-false}
use Rattle.std.proofs.lemmas.Bool.Decides.{nat_tests}
use Rattle.spans.proofs.Places.{length-uncovered}
use Rattle.session_memory.specs.declared.numbers.TheConstants.{LAST}
use Rattle.session_memory.specs.Numbers.{NumberSet, has, with_number, runs_in}
use Rattle.session_memory.specs.Memory.{Memory, is_remembered, turned, is_due, passed, is_full, with_place, forgotten, forgotten_by, closed, is_old}
use Rattle.session_memory.specs.Events.{Event, passes, places, closes, touches, after_event, forgets, after_events, ComeBetween, ForgetNothing, HasPlace}
use Rattle.session_memory.specs.Laws.{IsSet64, KeptForATime, TouchedAnew, IsWithin, RunsStayWithin, ForgetsByTheSecondTurn}
use Rattle.session_memory.proofs.NumberLemmas.{none-among, number-stays, runless, length-with, no-runs, runs-few, numbers_have}

pub forgets_by_the_second_turn : ForgetsByTheSecondTurn
unfolding turned
forgets_by_the_second_turn m n first second unmarked = rw (none-among n, unmarked) refl

-- ---- a number that is kept

-- it is among the newer ones, or it is among the older ones since that moment at the earliest
IsKept : Memory → ℕ → ℕ → Type 0
IsKept m n from = (has m.newer n ≡ true) ⊎ ((has m.older n ≡ true) × (from ≤ m.since))

kept-turned : (m : Memory) (n from now : ℕ) → has m.newer n ≡ true → from ≤ now → IsKept (turned now m) n from
unfolding IsKept turned
kept-turned m n from now there after = inr (there, after)

-- time passes
kept-passes : (m : Memory) (n from now : ℕ) → IsKept m n from → from ≤ now → now < from + m.keep_ms → IsKept (passed now m) n from
unfolding IsKept
kept-passes m n from now kept after before = by (is_due m now) refl
  where
    by : (t : Bool) → is_due m now ≡ t → IsKept (if t then turned now m else m) n from
    by false early = kept
    by true due =
        let long = leb-true m.keep_ms (now - m.since) due in
        elim kept [
          | inl there ↦ kept-turned m n from now there after
          | inr older ↦ absurd (omega (arith, long, older.1, before, after))
        ]

-- a place is made
kept-place : (m : Memory) (n from now receiving : ℕ) → IsKept m n from → from ≤ now → forgotten_by m receiving ≡ None
    → IsKept (with_place now receiving m) n from
unfolding IsKept
kept-place m n from now receiving kept after nothing = by (is_full m receiving) refl
  where
    none-left : (r : Bool) → (runs_in m.older == 0) ≡ r → (if r then None else Some (runs_in m.older)) ≡ None → runs_in m.older ≡ 0
    none-left true is none = eqb-true (runs_in m.older) 0 is
    none-left false is none = absurd (cc)

    by : (t : Bool) → is_full m receiving ≡ t → IsKept (if t then turned now m else m) n from
    by false there = kept
    by true full =
        let none : forgotten m ≡ None = rw full at nothing in
        elim kept [
          | inl there ↦ kept-turned m n from now there after
          | inr older ↦
              let gone = runless m.older n (none-left (runs_in m.older == 0) refl none) in
              let no : false ≡ true = sym gone ∙ older.0 in absurd (cc)
        ]

-- a session is over
kept-closed : (m : Memory) (n from k : ℕ) → IsKept m n from → IsKept (closed k m) n from
unfolding IsKept
kept-closed m n from k (inl there) = inl (number-stays m.newer k n there)
kept-closed m n from k (inr older) = inr older

-- any event
kept-event : (event : Event) (m : Memory) (n from now : ℕ) → IsKept m n from → from ≤ now → now < from + m.keep_ms → forgets event m ≡ None
    → IsKept (after_event now event m) n from
kept-event passes m n from now kept after before nothing = kept-passes m n from now kept after before
kept-event (places receiving) m n from now kept after before nothing = kept-place m n from now receiving kept after nothing
kept-event (closes k) m n from now kept after before nothing = kept-closed m n from k kept
kept-event (touches k receiving) m n from now kept after before nothing = by (is_old m k) refl
  where
    by : (t : Bool) → is_old m k ≡ t → IsKept (if t then closed k (with_place now receiving m) else m) n from
    by false there = kept
    by true old =
        let none : forgotten_by m receiving ≡ None = rw old at nothing in
        kept-closed (with_place now receiving m) n from k (kept-place m n from now receiving kept after none)

-- the time of a list never changes
place-time : (now receiving : ℕ) (m : Memory) → (with_place now receiving m).keep_ms ≡ m.keep_ms
unfolding turned
place-time now receiving m = by (is_full m receiving)
  where
    by : (t : Bool) → (if t then turned now m else m).keep_ms ≡ m.keep_ms
    by true = refl
    by false = refl

event-time : (event : Event) (now : ℕ) (m : Memory) → (after_event now event m).keep_ms ≡ m.keep_ms
unfolding turned
event-time passes now m = by (is_due m now)
  where
    by : (t : Bool) → (if t then turned now m else m).keep_ms ≡ m.keep_ms
    by true = refl
    by false = refl
event-time (places receiving) now m = place-time now receiving m
event-time (closes k) now m = refl
event-time (touches k receiving) now m = by (is_old m k)
  where
    by : (t : Bool) → (if t then closed k (with_place now receiving m) else m).keep_ms ≡ m.keep_ms
    by true = place-time now receiving m
    by false = refl

kept-there : (m : Memory) (n from : ℕ) → IsKept m n from → is_remembered m n ≡ true
unfolding IsKept
kept-there m n from (inl there) = rw there refl
kept-there m n from (inr older) = rw older.0 (by (has m.newer n))
  where
    by : (b : Bool) → ((b || true) || has m.marked n) ≡ true
    by true = refl
    by false = refl

kept-events : (events : List (ℕ × Event)) (m : Memory) (n from keep : ℕ) → m.keep_ms ≡ keep → IsKept m n from
    → ComeBetween from (from + keep) events → ForgetNothing events m → is_remembered (after_events events m) n ≡ true
kept-events [] m n from keep time kept between nothing = kept-there m n from kept
kept-events (event ∷ events) m n from keep time kept between nothing =
    kept-events events (after_event event.0 event.1 m) n from keep (event-time event.1 event.0 m ∙ time)
    (kept-event event.1 m n from event.0 kept between.0 (rw time between.1) nothing.0) between.2 nothing.1

kept-newer : (m : Memory) (n from : ℕ) → has m.newer n ≡ true → IsKept m n from
unfolding IsKept
kept-newer m n from there = inl there

pub kept_for_a_time : KeptForATime
kept_for_a_time m n from events there before between nothing =
    kept-events events m n from m.keep_ms refl (kept-newer m n from there) between nothing

-- ---- a number that is touched

number-there : (numbers : NumberSet) (n : ℕ) → IsSet64 numbers → n ≤ LAST → has (with_number n numbers) n ≡ true
number-there numbers n set most = numbers_have.added numbers n n set most ∙ by (has numbers n) (n == n) (grind (arith, nat_tests))
  where
    by : (a b : Bool) → b ≡ true → (a || b) ≡ true
    by true b is = refl
    by false b is = is

set-with : (n : ℕ) (numbers : NumberSet) → IsSet64 numbers → n ≤ LAST → IsSet64 (with_number n numbers)
unfolding with_number
set-with n numbers set most = length-with n numbers.places set most

place-since : (m : Memory) (now receiving : ℕ) → m.since ≤ now → (with_place now receiving m).since ≤ now
unfolding turned
place-since m now receiving before = by (is_full m receiving)
  where
    by : (t : Bool) → (if t then turned now m else m).since ≤ now
    by true = omega arith
    by false = before

place-set : (m : Memory) (now receiving : ℕ) → IsSet64 m.newer → IsSet64 (with_place now receiving m).newer
unfolding turned
place-set m now receiving set = by (is_full m receiving)
  where
    by : (t : Bool) → IsSet64 (if t then turned now m else m).newer
    by true = length-uncovered LAST
    by false = set

pub touched_anew : TouchedAnew
touched_anew m n now receiving events set most old before between nothing =
    rw old (kept_for_a_time (closed n (with_place now receiving m)) n now events
    (number-there (with_place now receiving m).newer n (place-set m now receiving set) most)
    (place-since m now receiving before)
    (rw (place-time now receiving m) between)
    (rw old at nothing))

-- ---- runs

within-turned : (now : ℕ) (m : Memory) → IsWithin m → IsWithin (turned now m)
unfolding turned
within-turned now m within = record { newer = subst (λ n. n ≤ m.most) (sym no-runs) (omega arith); older = within.newer; set = length-uncovered LAST }

within-if : (t : Bool) (now : ℕ) (m : Memory) → IsWithin m → IsWithin (if t then turned now m else m)
within-if true now m within = within-turned now m within
within-if false now m within = within

within-closed : (n : ℕ) (m : Memory) → n ≤ LAST → runs_in m.newer < m.most → IsWithin m → IsWithin (closed n m)
within-closed n m most place within = record {
  newer = let few = runs-few m.newer n within.set most in omega (arith, few, place);
  older = within.older;
  set = set-with n m.newer within.set most;
}

-- there is a place after one was made
place-made : (now receiving : ℕ) (m : Memory) → receiving < m.most → runs_in (with_place now receiving m).newer < (with_place now receiving m).most
unfolding turned
place-made now receiving m few = by (is_full m receiving) refl
  where
    by : (t : Bool) → is_full m receiving ≡ t → runs_in (if t then turned now m else m).newer < (if t then turned now m else m).most
    by true full = subst (λ n. n < m.most) (sym no-runs) (omega (arith, few))
    by false room = let small = leb-false m.most (runs_in m.newer + receiving) room in omega (arith, small)

within-event : (event : Event) (now : ℕ) (m : Memory) → IsWithin m → HasPlace event m → IsWithin (after_event now event m)
within-event passes now m within place = within-if (is_due m now) now m within
within-event (places receiving) now m within place = within-if (is_full m receiving) now m within
within-event (closes n) now m within place = within-closed n m place.0 place.1 within
within-event (touches n receiving) now m within place = by (is_old m n)
  where
    by : (t : Bool) → IsWithin (if t then closed n (with_place now receiving m) else m)
    by true = within-closed n (with_place now receiving m) place.0 (place-made now receiving m place.1) (within-if (is_full m receiving) now m within)
    by false = within

pub runs_stay_within : RunsStayWithin
runs_stay_within m [] within have = within
runs_stay_within m (event ∷ events) within have =
    runs_stay_within (after_event event.0 event.1 m) events (within-event event.1 event.0 m within have.0) have.1
