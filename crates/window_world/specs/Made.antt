-- The events of a drain of a link, as a list: the clean ones, one after the other, until none can
-- follow, or until a clock would be set to a contact time called top, or to a later one.

use Rattle.std.specs.List.{AllByRecursion}
use Rattle.std.specs.Prelude.{◌≡◌, ℕ, zero, suc, ◌-◌, ◌<◌, ◌≤◌, nat_lt, List, [], ◌∷◌, Option, None}
use Rattle.std.specs.Prelude.{Some, if◌then◌else◌}
use Rattle.ltp_session.specs.Engine.{Party}
use Rattle.ltp_session.specs.World.{Event, World, clock, deliver, happens, run, submit}
use Rattle.ltp_drain.specs.Clean.{AreClean, clean_event, passed, passed_after}
use Rattle.ltp_drain.specs.Hopeful.{IsReached}
use Rattle.ltp_drain.specs.Left.{AreTimed, link_left}

-- ---- event by event

-- what is done from a link on, of whose segments so many are delivered or lost
abbrev pub Onward : Type 0
Onward = World → ℕ → List Event

-- one event, and what is done from the link after it on
abbrev pub event_then : Party × Party → World → ℕ → Event → Onward → List Event
event_then parties w c event onward =
    event ∷ onward (happens parties w event) (passed_after c event)

-- the next event of a drain, if there is one: after a delivery it goes on at this contact time, and
-- after a clock at a later one
abbrev pub next_and_on :
    ℕ → Party × Party → World → ℕ → Onward → Onward → Option Event → List Event
next_and_on top parties w c same later None = []
-- no clean event submits a block
next_and_on top parties w c same later (Some (submit end block red)) = []
next_and_on top parties w c same later (Some (deliver k)) = event_then parties w c (deliver k) same
next_and_on top parties w c same later (Some (clock now)) =
    if nat_lt now top then event_then parties w c (clock now) later else []

-- a drain of so many contact times at most, and of so many events at the first of them
unfoldable pub events_within : ℕ → ℕ → ℕ → Party × Party → Onward
events_within zero n top parties w c = []
events_within (suc m) zero top parties w c = []
events_within (suc m) (suc n) top parties w c =
    next_and_on top parties w c (events_within (suc m) n top parties)
    (λ v d. events_within m (suc (link_left v d)) top parties v d) (clean_event w c)

-- The events of a drain from a link on, of whose segments c are delivered or lost. Both counts only
-- bound the recursion, and are enough (`drains_are_made`): each clock is set to a later contact time,
-- and each delivery leaves less.
unfoldable pub drain_events : (top : ℕ) → Party × Party → World → (c : ℕ) → List Event
drain_events top parties w c =
    events_within (suc (top - w.now)) (suc (link_left w c)) top parties w c

-- ---- they are a drain, and there is no other

-- a clock is set to a contact time before top
abbrev pub IsBefore : ℕ → Event → Type 0
IsBefore top (submit end block red) = Unit {0}
IsBefore top (deliver k) = Unit {0}
IsBefore top (clock now) = now < top

-- no event can follow, or a clock would be set to top or later
abbrev pub IsOverBy : ℕ → Option Event → Type 0
IsOverBy top None = Unit {0}
IsOverBy top (Some (submit end block red)) = ⊥
IsOverBy top (Some (deliver k)) = ⊥
IsOverBy top (Some (clock now)) = top ≤ now

-- these events are clean from a link on, of whose segments c are delivered or lost; each clock is
-- set to a contact time before top; and then it is over
pub record EndsBy (top : ℕ) (parties : Party × Party) (w : World) (c : ℕ) (made : List Event)
    : Type 0 where
  pub clean : AreClean parties w c made
  pub early : AllByRecursion (IsBefore top) made
  pub over : IsOverBy top (clean_event (run parties w made) (passed c made))

-- from every link that a run leads to, hopeful or not
abbrev pub DrainsAreMade : Type 0
DrainsAreMade =
    (parties : Party × Party) (w : World) (top c : ℕ) → AreTimed parties → IsReached parties w
    → EndsBy top parties w c (drain_events top parties w c)

-- no other events lead to where it is over
abbrev pub DrainsAreOne : Type 0
DrainsAreOne =
    (parties : Party × Party) (w : World) (top c : ℕ) (made : List Event) → AreTimed parties
    → IsReached parties w → EndsBy top parties w c made → made ≡ drain_events top parties w c
