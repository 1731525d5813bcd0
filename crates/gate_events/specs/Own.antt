-- The sessions of the gateway's own: those that it began and that haven't ended.

use Rattle.std.specs.Prelude.{ℕ, Bool, false, ◌==◌, List, [], ◌∷◌, Option, None, Some}
use Rattle.std.specs.Prelude.{if◌then◌else◌}
use Rattle.gate_cases.specs.declared.face.Face.{Face}
use Rattle.gateway_core.specs.Gate.{if_same}
use Rattle.gate_events.specs.declared.own.Own.{Own}

-- ---- one of them, by its face and its number

abbrev pub is_of : Face → ℕ → Own → Bool
is_of face session own = if_same own.face face (own.session == session) false

unfoldable pub find_own : Face → ℕ → List Own → Option Own
find_own face session [] = None
find_own face session (own ∷ more) =
    if is_of face session own then Some own else find_own face session more

unfoldable pub without_own : Face → ℕ → List Own → List Own
without_own face session [] = []
without_own face session (own ∷ more) =
    if is_of face session own then more else own ∷ without_own face session more

-- ---- the end of one

-- Which own sessions are open at a face after a step of the gate: kept, and not being cancelled.
abbrev pub OpenAt : Type 0
OpenAt = Face → ℕ → Bool

-- A session ends in a step where it was open before it and isn't open after it. A note of the step
-- with its number tells of that end, where no note before it did.
abbrev pub end_of : OpenAt → Face → ℕ → List Own → Option Own
end_of is_open face session own = if is_open face session then None else find_own face session own

-- those of whose end no note told, after a note with this number
abbrev pub left_by : OpenAt → Face → ℕ → List Own → List Own
left_by is_open face session own =
    if is_open face session then own else without_own face session own
