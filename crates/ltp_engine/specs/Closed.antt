-- The closed numbers of an engine, as the code keeps them.

use Rattle.std.specs.Prelude.{ℕ, ◌+◌, ◌-◌, Bool, false, not, ◌==◌, ◌&&◌, ◌||◌, pred, List, []}
use Rattle.std.specs.Prelude.{◌∷◌, if◌then◌else◌}
use Rattle.spans.specs.Places.{is_covered, with_covered, uncovered}
use Rattle.ltp_engine.specs.declared.closed.TheConstants.{LAST}

-- which numbers below the last one are closed; whether the last one is; and how many runs of
-- consecutive closed numbers there are
pub record ClosedValue : Type 0 where
  pub places : List Bool
  pub last : Bool
  pub runs : ℕ

-- a number is closed
abbrev pub is_among : ClosedValue → ℕ → Bool
is_among c n = is_covered c.places n || (c.last && (n == LAST))

-- no number is closed
abbrev pub none_closed : ClosedValue
none_closed = record { places = uncovered LAST; last = false; runs = 0 }

-- a number begins a run: the one before it isn't closed
abbrev pub begins_run : ClosedValue → ℕ → Bool
begins_run c n = (n == 0) || not (is_among c (pred n))

-- the runs once number n is closed too: one more, less the one that began after it
abbrev pub runs_with : ClosedValue → ℕ → ℕ
runs_with c n =
    (c.runs + (if begins_run c n then 1 else 0)) - (if is_among c (n + 1) then 1 else 0)

-- a number is covered too, where it isn't the last one
abbrev pub with_place : ℕ → ClosedValue → ClosedValue
with_place n c =
    record c { places = if n == LAST then c.places else with_covered n (n + 1) c.places }

-- number n is closed too
unfoldable pub also_closed : ℕ → ClosedValue → ClosedValue
also_closed n c =
    record (with_place n c) { last = c.last || (n == LAST); runs = runs_with c n }

-- some numbers are, the last of the list first
unfoldable pub all_closed : List ℕ → ClosedValue → ClosedValue
all_closed [] c = c
all_closed (n ∷ numbers) c = also_closed n (all_closed numbers c)
