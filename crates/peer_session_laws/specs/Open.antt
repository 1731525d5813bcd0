-- The open sessions of a run are those that it keeps as its own.

use Rattle.std.specs.Prelude.{◌≡◌, ℕ, ◌≤◌, Bool, true, if◌then◌else◌}
use Rattle.std.specs.List.{AllByRecursion}
use Rattle.gate_cases.specs.declared.face.Face.{Face}
use Rattle.peer_events.specs.Laws.{own_count}
use Rattle.peer_half.specs.Runs.{EventIn, Run, events_of, stands_at}
use Rattle.peer_half.specs.Steps.{opens_in}
use Rattle.peer_session_laws.specs.Own.{IsSomePiece}

-- how many of those that a run keeps as its own are of this face, with this number
abbrev pub own_at : Run → Face → ℕ → ℕ
own_at r at n = own_count at n (stands_at r).own

abbrev pub is_open_in : Run → Face → ℕ → Bool
is_open_in r at n = opens_in (stands_at r).gate at n

-- Each session that is open at a face is one of those, once.
abbrev pub OpenAreOwn : Type 0
OpenAreOwn = (r : Run) (at : Face) (n : ℕ) → is_open_in r at n ≡ true → own_at r at n ≡ 1

-- None stands there twice.
abbrev pub OwnAreOnce : Type 0
OwnAreOnce = (r : Run) (at : Face) (n : ℕ) → own_at r at n ≤ 1

-- Where each piece of earlier runs that was to be added has an octet, those are the open ones.
abbrev pub OwnAreOpen : Type 0
OwnAreOpen = (r : Run) (at : Face) (n : ℕ)
    → AllByRecursion (λ (event : EventIn). IsSomePiece event.0) (events_of r)
    → own_at r at n ≡ (if is_open_in r at n then 1 else 0)
