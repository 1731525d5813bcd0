-- What the words mean, number by number, and what holds over runs.

use Rattle.std.specs.Prelude.{◌≡◌, ℕ, ◌+◌, ◌≤◌, true, false, ◌==◌, ◌||◌, List, length}
use Rattle.session_memory.specs.declared.numbers.TheConstants.{LAST}
use Rattle.session_memory.specs.Numbers.{NumberSet, has, no_numbers, with_number, runs_in}
use Rattle.session_memory.specs.Memory.{Memory, is_remembered, is_old, turned, touched}
use Rattle.session_memory.specs.Events.{Event, after_events, ComeBetween, ForgetNothing, HavePlaces}

-- numbers up to 2^64 - 1, of which each below the last has its place
abbrev pub IsSet64 : NumberSet → Type 0
IsSet64 numbers = length numbers.places ≡ LAST

-- no number is among none, which are no runs; a number is added, and no other
pub record HaveNumbers : Type 0 where
  pub none : (k : ℕ) → has no_numbers k ≡ false
  pub no_runs : runs_in no_numbers ≡ 0
  pub added : (numbers : NumberSet) (n k : ℕ) → IsSet64 numbers → n ≤ LAST
      → has (with_number n numbers) k ≡ (has numbers k || (k == n))

-- a number adds a run at most, and none where it is among them or beside one of them
pub record AddsRun : Type 0 where
  pub one : (numbers : NumberSet) (n : ℕ) → IsSet64 numbers → n ≤ LAST
      → runs_in (with_number n numbers) ≤ runs_in numbers + 1
  pub after : (numbers : NumberSet) (n : ℕ) → IsSet64 numbers → n + 1 ≤ LAST → has numbers n ≡ true
      → runs_in (with_number (n + 1) numbers) ≤ runs_in numbers

-- a number that is among the newer ones is remembered for the time after that moment, whatever happens,
-- unless runs are forgotten before their time
abbrev pub KeptForATime : Type 0
KeptForATime = (m : Memory) (n from : ℕ) (events : List (ℕ × Event))
    → has m.newer n ≡ true → m.since ≤ from → ComeBetween from (from + m.keep_ms) events → ForgetNothing events m
    → is_remembered (after_events events m) n ≡ true

-- A number that is among the older ones alone, and of which a red piece comes, is remembered for the time
-- after that moment, whatever happens, unless runs are forgotten before their time.
abbrev pub TouchedAnew : Type 0
TouchedAnew = (m : Memory) (n now receiving : ℕ) (events : List (ℕ × Event))
    → IsSet64 m.newer → n ≤ LAST → is_old m n ≡ true → m.since ≤ now
    → ComeBetween now (now + m.keep_ms) events → ForgetNothing events (touched n now receiving m)
    → is_remembered (after_events events (touched n now receiving m)) n ≡ true

-- neither list has more runs than it may
pub record IsWithin (m : Memory) : Type 0 where
  pub newer : runs_in m.newer ≤ m.most
  pub older : runs_in m.older ≤ m.most
  pub set : IsSet64 m.newer

-- it stays so, where there is a place for each number that comes in
abbrev pub RunsStayWithin : Type 0
RunsStayWithin = (m : Memory) (events : List (ℕ × Event)) → IsWithin m → HavePlaces events m
    → IsWithin (after_events events m)

-- a number that isn't marked, and isn't added after that, is forgotten by the second turn
abbrev pub ForgetsByTheSecondTurn : Type 0
ForgetsByTheSecondTurn = (m : Memory) (n first second : ℕ) → has m.marked n ≡ false
    → is_remembered (turned second (turned first m)) n ≡ false
