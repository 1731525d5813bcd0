-- A drain in which the two directions cross: picks say which end's oldest new segment is delivered
-- next, and which old segment comes once more. After the last pick the drain goes on by itself.

use Rattle.std.specs.List.{list_any}
use Rattle.std.specs.Option.{option_map}
use Rattle.std.specs.Prelude.{◌≡◌, ℕ, ◌+◌, Bool, not, ◌==◌, ◌&&◌, nat_lt, List, [], ◌∷◌, ◌++◌}
use Rattle.std.specs.Prelude.{length, map, Option, None, Some, if◌then◌else◌}
use Rattle.ltp_session.specs.Engine.{Party}
use Rattle.ltp_session.specs.World.{End, Event, Sent, World, clock, deliver, happens}
use Rattle.ltp_laws.specs.View.{same_end}
use Rattle.ltp_drain.specs.Clean.{link_deadline}
use Rattle.ltp_drain.specs.Draining.{since}

-- the oldest new segment of an end; or the k-th of all segments, where it isn't new
pub data Pick : Type 0 where
  oldest_of : End → Pick
  old_copy : ℕ → Pick

-- ---- a drain, as picks see it

-- a segment, and its place among all that were ever sent
pub record Placed : Type 0 where
  pub place : ℕ
  pub sent : Sent

-- a world, and what was sent since the drain began and isn't delivered yet, in order
pub record Crossing : Type 0 where
  pub world : World
  pub new : List Placed

-- a drain begins: nothing is new
abbrev pub crosses_at : World → Crossing
crosses_at w = record { world = w; new = [] }

-- segments that stand from a place on
unfoldable pub placed_from : ℕ → List Sent → List Placed
placed_from k [] = []
placed_from k (d ∷ ds) = record { place = k; sent = d } ∷ placed_from (k + 1) ds

-- ---- turns

-- an event, and what is still new of that which was before it
pub record Turn : Type 0 where
  pub event : Event
  pub left : List Placed

-- the event happens, and what is sent in it is new
abbrev pub after_turn : Party × Party → Crossing → Turn → Crossing
after_turn parties d t = record {
  world = happens parties d.world t.event;
  new =
      t.left ++ placed_from (length d.world.sent)
      (since d.world (happens parties d.world t.event));
}

abbrev pub behind_new : Placed → Option Turn → Option Turn
behind_new e None = None
behind_new e (Some t) = Some (record { event = t.event; left = e ∷ t.left })

-- the oldest new segment of an end is delivered, where it has one
unfoldable pub oldest_turn : End → List Placed → Option Turn
oldest_turn from [] = None
oldest_turn from (e ∷ es) =
    if same_end e.sent.from from then Some (record { event = deliver e.place; left = es })
    else behind_new e (oldest_turn from es)

-- where nothing is new, the clock is set to the earliest deadline, if there is one
abbrev pub clock_turn : World → List Placed → Option Turn
clock_turn w [] = option_map (λ now. record { event = clock now; left = [] }) (link_deadline w)
clock_turn w (e ∷ es) = None

abbrev pub or_clock : World → List Placed → Option Turn → Option Turn
or_clock w new (Some t) = Some t
or_clock w new None = clock_turn w new

-- a segment that was sent before the drain, or was delivered in it
abbrev pub is_old : Crossing → ℕ → Bool
is_old d k = nat_lt k (length d.world.sent) && not (list_any (λ e. e.place == k) d.new)

-- what a pick does, where it does anything
abbrev pub pick_turn : Crossing → Pick → Option Turn
pick_turn d (oldest_of from) = or_clock d.world d.new (oldest_turn from d.new)
pick_turn d (old_copy k) =
    if is_old d k then Some (record { event = deliver k; left = d.new }) else None

-- after the last pick: the oldest new segment of both ends is delivered, or the clock is set
abbrev pub next_turn : World → List Placed → Option Turn
next_turn w [] = clock_turn w []
next_turn w (e ∷ es) = Some (record { event = deliver e.place; left = es })

-- ---- the turns of all picks

abbrev pub after_pick : Party × Party → Crossing → Option Turn → Crossing
after_pick parties d None = d
after_pick parties d (Some t) = after_turn parties d t

abbrev pub as_turns : Option Turn → List Turn
as_turns None = []
as_turns (Some t) = t ∷ []

-- a pick that does nothing has no turn
unfoldable pub picked_turns : Party × Party → Crossing → List Pick → List Turn
picked_turns parties d [] = []
picked_turns parties d (pick ∷ picks) =
    as_turns (pick_turn d pick)
    ++ picked_turns parties (after_pick parties d (pick_turn d pick)) picks

unfoldable pub after_picks : Party × Party → Crossing → List Pick → Crossing
after_picks parties d [] = d
after_picks parties d (pick ∷ picks) =
    after_picks parties (after_pick parties d (pick_turn d pick)) picks

-- how many old segments come once more by these picks
abbrev pub copies_of : Pick → Option Turn → ℕ
copies_of (oldest_of from) turn = 0
copies_of (old_copy k) None = 0
copies_of (old_copy k) (Some t) = 1

unfoldable pub copies : Party × Party → Crossing → List Pick → ℕ
copies parties d [] = 0
copies parties d (pick ∷ picks) =
    copies_of pick (pick_turn d pick)
    + copies parties (after_pick parties d (pick_turn d pick)) picks

-- ---- after the picks

-- each of these turns is the next one
abbrev pub AreNext : Party × Party → Crossing → List Turn → Type 0
AreNext parties d [] = Unit {0}
AreNext parties d (t ∷ ts) =
    (next_turn d.world d.new ≡ Some t) × AreNext parties (after_turn parties d t) ts

unfoldable pub after_turns : Party × Party → Crossing → List Turn → Crossing
after_turns parties d [] = d
after_turns parties d (t ∷ ts) = after_turns parties (after_turn parties d t) ts

abbrev pub events_of : List Turn → List Event
events_of turns = map (λ t. t.event) turns

-- nothing is left to do: nothing is new, and no timer runs
pub record IsOver (d : Crossing) : Type 0 where
  pub none_new : d.new ≡ []
  pub no_timer : link_deadline d.world ≡ None
