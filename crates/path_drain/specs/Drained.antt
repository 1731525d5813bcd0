-- The events of a drain of a path, as a list: the clean ones, one after the other, until none can
-- follow, or until the clock would be set to a moment called top, or to a later one.

use Rattle.std.specs.List.{AllByRecursion}
use Rattle.std.specs.Prelude.{◌≡◌, ℕ, zero, suc, ◌-◌, nat_lt, List, [], ◌∷◌, length, Option, None}
use Rattle.std.specs.Prelude.{Some, Ok, if◌then◌else◌}
use Rattle.endpoint.specs.declared.name.Endpoint.{Endpoint}
use Rattle.ltp_segment.specs.declared.session.TheConstants.{BLOCK_MAX}
use Rattle.ltp_segment.specs.Policy.{PolicyValue, policy_of}
use Rattle.path_drain.specs.Clean.{AreCleanOnPath, PathCleanRun, path_clean_event, path_passed}
use Rattle.path_drain.specs.Clean.{path_passed_after}
use Rattle.path_laws.specs.Path.{Path, PathEvent, PathSetup, clock_shows, delivers, path_run}
use Rattle.path_laws.specs.Path.{path_setup, path_step, sends, starts_path}
use Rattle.path_drain.specs.Left.{IsBefore, IsOverBy, IsTimed, path_left}

-- ---- event by event

-- what is done from a path on, of whose segments so many are delivered or lost
abbrev pub Onward : Type 0
Onward = Path → ℕ → List PathEvent

-- one event, and what is done from the path after it on
abbrev pub event_then : PathSetup → Path → ℕ → PathEvent → Onward → List PathEvent
event_then s w c event onward =
    event ∷ onward (path_step s w event).path (path_passed_after c event)

-- the next event of a drain, if there is one: after a delivery it goes on at this moment, and after
-- a clock at a later one
abbrev pub next_and_on :
    ℕ → PathSetup → Path → ℕ → Onward → Onward → Option PathEvent → List PathEvent
next_and_on top s w c same later None = []
-- no clean event sends a block
next_and_on top s w c same later (Some (sends end block)) = []
next_and_on top s w c same later (Some (delivers k)) = event_then s w c (delivers k) same
next_and_on top s w c same later (Some (clock_shows now)) =
    if nat_lt now top then event_then s w c (clock_shows now) later else []

-- a drain of so many moments at most, and of so many events at the first of them
unfoldable pub events_within : ℕ → ℕ → ℕ → ℕ → PathSetup → Onward
events_within zero n most top s w c = []
events_within (suc m) zero most top s w c = []
events_within (suc m) (suc n) most top s w c =
    next_and_on top s w c (events_within (suc m) n most top s)
    (λ v d. events_within m (suc (path_left most v d)) most top s v d) (path_clean_event w c)

-- The events of a drain from a path on, of whose segments c are delivered or lost, where no engine
-- takes a block longer than most. Both counts only bound the recursion, and are enough
-- (`drains_are_made`): each clock is set to a later moment, and each delivery leaves less.
unfoldable pub drain_events : (most top : ℕ) → PathSetup → Path → (c : ℕ) → List PathEvent
drain_events most top s w c =
    events_within (suc (top - w.now)) (suc (path_left most w c)) most top s w c

-- ---- they are a drain, and there is no other

-- these events are clean from a path on, of whose segments c are delivered or lost; each clock is
-- set to a moment before top; and then it is over
pub record EndsBy (top : ℕ) (s : PathSetup) (w : Path) (c : ℕ) (made : List PathEvent) : Type 0
  where
    pub clean : AreCleanOnPath s w c made
    pub early : AllByRecursion (IsBefore top) made
    pub over : IsOverBy top (path_clean_event (path_run s w made) (path_passed c made))

-- from every path that a run leads to, hopeful or not
abbrev pub DrainsAreMade : Type 0
DrainsAreMade =
    (s : PathSetup) (start most c top : ℕ) (events : List PathEvent) → IsTimed s most
    → EndsBy top s (path_run s (starts_path s start) events) c
    (drain_events most top s (path_run s (starts_path s start) events) c)

-- no other events lead to where it is over
abbrev pub DrainsAreOne : Type 0
DrainsAreOne =
    (s : PathSetup) (start most c top : ℕ) (events made : List PathEvent) → IsTimed s most
    → EndsBy top s (path_run s (starts_path s start) events) c made
    → made ≡ drain_events most top s (path_run s (starts_path s start) events) c

-- nor does another clean run, whose clock stays before top, lead to where nothing is left to do
abbrev pub CleanRunsAreOne : Type 0
CleanRunsAreOne =
    (s : PathSetup) (start most top n : ℕ) (events : List PathEvent) (v : Path) → IsTimed s most
    → (run : PathCleanRun s (path_run s (starts_path s start) events) n v)
    → AllByRecursion (IsBefore top) run.events
    → run.events
    ≡ drain_events most top s (path_run s (starts_path s start) events)
    (length (path_run s (starts_path s start) events).sent)

-- ---- of every path that can be set up

-- so it is whatever policy all four engines were given
abbrev pub PathsAreTimed : Type 0
PathsAreTimed =
    (gate : Endpoint) (segment timeout limit cap cut : ℕ) (policy : PolicyValue)
    → policy_of segment timeout limit cap ≡ Ok policy
    → IsTimed (path_setup gate policy cut) BLOCK_MAX
