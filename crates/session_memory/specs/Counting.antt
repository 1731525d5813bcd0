-- How the code counts runs.

use Rattle.std.specs.Prelude.{ℕ, pred, ◌+◌, ◌-◌, Bool, not, ◌==◌, ◌||◌, if◌then◌else◌}
use Rattle.session_memory.specs.Numbers.{NumberSet, has, runs_in}

-- a number begins a run: the one before it isn't among them
abbrev pub begins_run : NumberSet → ℕ → Bool
begins_run numbers n = (n == 0) || not (has numbers (pred n))

-- the runs once a number is among them that isn't: one more, less the one that began after it
abbrev pub runs_with : NumberSet → ℕ → ℕ
runs_with numbers n =
    (runs_in numbers + (if begins_run numbers n then 1 else 0)) - (if has numbers (n + 1) then 1 else 0)

abbrev pub runs_after : NumberSet → ℕ → ℕ
runs_after numbers n = if has numbers n then runs_in numbers else runs_with numbers n
