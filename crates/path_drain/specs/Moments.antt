-- When a path's timers are due: after its clock. And what a clock does that none is due at: it shows
-- the moment, and nothing else is done.

use Rattle.std.specs.Prelude.{◌≡◌, ℕ, ◌<◌, ◌≤◌, List, Option, None, Some}
use Rattle.path_drain.specs.Clean.{path_deadline}
use Rattle.path_laws.specs.Path.{Path, PathEvent, PathSetup, clock_shows, nothing_done, path_run}
use Rattle.path_laws.specs.Path.{path_step, starts_path}
use Rattle.path_drain.specs.Left.{IsTimed}

-- a moment is before a deadline, where there is one
abbrev pub IsBeforeAny : ℕ → Option ℕ → Type 0
IsBeforeAny now None = Unit {0}
IsBeforeAny now (Some deadline) = now < deadline

-- where a run leads to, the clock is before the earliest deadline
abbrev pub PathDeadlinesAreAhead : Type 0
PathDeadlinesAreAhead =
    (s : PathSetup) (start most : ℕ) (events : List PathEvent) → IsTimed s most
    → IsBeforeAny (path_run s (starts_path s start) events).now
    (path_deadline (path_run s (starts_path s start) events))

-- on any path, whether a run leads to it or not
abbrev pub QuietClocksGoOn : Type 0
QuietClocksGoOn =
    (s : PathSetup) (w : Path) (now : ℕ) → w.now ≤ now → IsBeforeAny now (path_deadline w)
    → path_step s w (clock_shows now)
    ≡ record { path = record w { now = now }; effects = nothing_done }
