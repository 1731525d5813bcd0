-- Runs of a memory: events, each with its moment.

use Rattle.std.specs.Prelude.{◌≡◌, ℕ, ◌<◌, ◌≤◌, List, [], ◌∷◌, Option, None}
use Rattle.session_memory.specs.declared.numbers.TheConstants.{LAST}
use Rattle.session_memory.specs.Numbers.{runs_in}
use Rattle.session_memory.specs.Memory.{Memory, passed, with_place, forgotten_by, closed, touched, forgotten_at}

-- time passes; a place is made, where so many sessions are received; a session is over; a red piece of one
-- comes, where so many are received
pub data Event : Type 0 where
  passes : Event
  places : ℕ → Event
  closes : ℕ → Event
  touches : ℕ → ℕ → Event

-- what an event at a moment makes of a memory
abbrev pub after_event : ℕ → Event → Memory → Memory
after_event now passes m = passed now m
after_event now (places receiving) m = with_place now receiving m
after_event now (closes n) m = closed n m
after_event now (touches n receiving) m = touched n now receiving m

-- how many runs are forgotten before their time
abbrev pub forgets : Event → Memory → Option ℕ
forgets passes m = None
forgets (places receiving) m = forgotten_by m receiving
forgets (closes n) m = None
forgets (touches n receiving) m = forgotten_at m n receiving

-- events in their order, each after its moment
abbrev pub after_events : List (ℕ × Event) → Memory → Memory
after_events [] m = m
after_events (event ∷ events) m = after_events events (after_event event.0 event.1 m)

-- There is a place for each number that comes in: where a session is over one was made, and where a red piece
-- of one comes fewer sessions are received than a list has runs.
abbrev pub HasPlace : Event → Memory → Type 0
HasPlace passes m = Unit {0}
HasPlace (places receiving) m = Unit {0}
HasPlace (closes n) m = (n ≤ LAST) × (runs_in m.newer < m.most)
HasPlace (touches n receiving) m = (n ≤ LAST) × (receiving < m.most)

abbrev pub HavePlaces : List (ℕ × Event) → Memory → Type 0
HavePlaces [] m = Unit {0}
HavePlaces (event ∷ events) m = HasPlace event.1 m × HavePlaces events (after_event event.0 event.1 m)

-- each comes from one moment on and before another
abbrev pub ComeBetween : ℕ → ℕ → List (ℕ × Event) → Type 0
ComeBetween from to [] = Unit {0}
ComeBetween from to (event ∷ events) = (from ≤ event.0) × (event.0 < to) × ComeBetween from to events

-- nothing is forgotten before its time
abbrev pub ForgetNothing : List (ℕ × Event) → Memory → Type 0
ForgetNothing [] m = Unit {0}
ForgetNothing (event ∷ events) m =
    (forgets event.1 m ≡ None) × ForgetNothing events (after_event event.0 event.1 m)
