-- What is remembered of the sessions that are over, and what each step makes of it (own rule).

use Rattle.std.specs.Prelude.{ℕ, ◌+◌, ◌-◌, Bool, not, ◌==◌, ◌&&◌, ◌||◌, nat_le, if◌then◌else◌, Option, Some, None}
use Rattle.session_memory.specs.Numbers.{NumberSet, has, no_numbers, with_number, runs_in}

-- The newer numbers and the older ones; those that are kept for good; and the moment of the last turn.
-- Either list has at most so many runs, and a turn comes after so many milliseconds.
pub record Memory : Type 0 where
  pub newer : NumberSet
  pub older : NumberSet
  pub marked : NumberSet
  pub since : ℕ
  pub most : ℕ
  pub keep_ms : ℕ

abbrev pub nothing_remembered : ℕ → ℕ → ℕ → Memory
nothing_remembered most keep_ms now = record {
  newer = no_numbers;
  older = no_numbers;
  marked = no_numbers;
  since = now;
  most = most;
  keep_ms = keep_ms;
}

-- the session with this number is over
abbrev pub is_remembered : Memory → ℕ → Bool
is_remembered m n = has m.newer n || has m.older n || has m.marked n

-- ---- turns

-- the older numbers are forgotten
unfoldable pub turned : ℕ → Memory → Memory
turned now m = record m { newer = no_numbers; older = m.newer; since = now }

-- the time has come for a turn
abbrev pub is_due : Memory → ℕ → Bool
is_due m now = nat_le m.keep_ms (now - m.since)

abbrev pub passed : ℕ → Memory → Memory
passed now m = if is_due m now then turned now m else m

-- ---- places

-- there is no place for another number, where so many sessions are received: each of them may add a run
abbrev pub is_full : Memory → ℕ → Bool
is_full m receiving = nat_le m.most (runs_in m.newer + receiving)

-- a place is made for another number by a turn, where there is none
abbrev pub with_place : ℕ → ℕ → Memory → Memory
with_place now receiving m = if is_full m receiving then turned now m else m

-- how many runs a turn forgets, where it forgets any
abbrev pub forgotten : Memory → Option ℕ
forgotten m = if runs_in m.older == 0 then None else Some (runs_in m.older)

abbrev pub forgotten_by : Memory → ℕ → Option ℕ
forgotten_by m receiving = if is_full m receiving then forgotten m else None

-- ---- numbers

-- the session with this number is over
abbrev pub closed : ℕ → Memory → Memory
closed n m = record m { newer = with_number n m.newer }

-- it is kept for good
abbrev pub marked_with : ℕ → Memory → Memory
marked_with n m = record m { marked = with_number n m.marked }

-- the number is among the older ones alone
abbrev pub is_old : Memory → ℕ → Bool
is_old m n = has m.older n && not (has m.newer n) && not (has m.marked n)

-- A red piece of the session came, where so many sessions are received: a number that is among the older
-- ones alone goes into the newer ones, and a place is made for it before.
abbrev pub touched : ℕ → ℕ → ℕ → Memory → Memory
touched n now receiving m = if is_old m n then closed n (with_place now receiving m) else m

abbrev pub forgotten_at : Memory → ℕ → ℕ → Option ℕ
forgotten_at m n receiving = if is_old m n then forgotten_by m receiving else None
