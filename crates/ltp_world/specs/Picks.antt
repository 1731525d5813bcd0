-- What a drain with picks promises: the turns of its picks in every run where the world stands, and
-- then the turns after them.

use Rattle.std.specs.Prelude.{◌≡◌, ℕ, ◌+◌, ◌*◌, ◌≤◌, true, List, ◌∷◌, ◌++◌, map}
use Rattle.std.specs.Prelude.{Option, None, Some, Result, Ok, Err, ◌⊎◌}
use Rattle.std.specs.List.{AllByRecursion}
use Rattle.ltp_segment.specs.declared.session.Note.TheVariants as notes
use Rattle.ltp_session.specs.Engine.{Party}
use Rattle.ltp_session.specs.World.{Event, World, first_end, second_end, other}
use Rattle.ltp_session.specs.World.{End as LinkEnd}
use Rattle.ltp_laws.specs.View.{view}
use Rattle.ltp_drain.specs.Hopeful.{Hopeful, IsHanded, IsKeptSender, Room, cost}
use Rattle.ltp_picks.specs.Picks.{AreNext, Crossing, Turn, after_picks, after_turns, crosses_at}
use Rattle.ltp_picks.specs.Picks.{copies, events_of, next_turn, old_copy, oldest_of, pick_turn}
use Rattle.ltp_picks.specs.Picks.{picked_turns}
use Rattle.ltp_picks.specs.Picks.{Pick as LinkPick}
use Rattle.ltp_picks.specs.PickedRuns.{PickedRun, PicksNew, run_events}
use Rattle.ltp_world.specs.declared.effects.Drained.{Drained}
use Rattle.ltp_world.specs.declared.effects.EndEffects.{EndEffects}
use Rattle.ltp_world.specs.declared.picks.Pick.{Pick}
use Rattle.ltp_world.specs.declared.picks.Pick.TheVariants as picks
use Rattle.ltp_world.specs.declared.refused.DrainRefused.{DrainRefused}
use Rattle.ltp_world.specs.declared.refused.DrainRefused.TheVariants as causes
use Rattle.ltp_world.specs.Drain.{InEveryRun, IsEarly, IsLate, TellsNote, TellsUp, done_in}
use Rattle.ltp_world.specs.Ends.{named}
use Rattle.ltp_world.specs.Shows.{ShowsRun, link_after}
use Rattle.ltp_world.specs.Values.{WorldValue, parties_of}

-- a pick of the definition that the code names so
abbrev pub link_pick : Pick → LinkPick
link_pick picks.First = oldest_of first_end
link_pick picks.Second = oldest_of second_end
link_pick (picks.Old k) = old_copy k

abbrev pub link_picks : List Pick → List LinkPick
link_picks picks = map link_pick picks

-- ---- what it answers

-- after a run of these events the turns of the picks follow, and those after them, until nothing is
-- left to do; at their events the ends do this, and the new world stands after them
pub record PicksAll (old new : WorldValue) (picks : List Pick) (drained : Drained)
    (events : List Event) : Type 0 where
  pub end : World
  pub run :
      PickedRun (parties_of old) (link_after old events) (link_picks picks) drained.events end
  pub early :
      AllByRecursion IsEarly
      (run_events (parties_of old) (link_after old events) (link_picks picks) run.rest)
  pub told :
      drained.effects
      ≡ done_in (parties_of old) (link_after old events)
      (run_events (parties_of old) (link_after old events) (link_picks picks) run.rest)
  pub shows :
      ShowsRun new
      (events
      ++ run_events (parties_of old) (link_after old events) (link_picks picks) run.rest)

-- a turn would set the clock too late
abbrev pub IsLateTurn : Option Turn → Type 0
IsLateTurn None = ⊥
IsLateTurn (Some t) = IsLate (Some t.event)

-- these are the events that were made before the clock would be set too late: those of a front of
-- the picks, of which the next one is too late; or those of all picks and of turns after them
pub data IsMadeUntilLate (parties : Party × Party) (w : World) (picks : List LinkPick)
    (made : List Event) : Type 0 where
  late_pick : (front : List LinkPick) (pick : LinkPick) (others : List LinkPick)
      → picks ≡ front ++ pick ∷ others
      → made ≡ events_of (picked_turns parties (crosses_at w) front)
      → IsLateTurn (pick_turn (after_picks parties (crosses_at w) front) pick)
      → IsMadeUntilLate parties w picks made
  late_after : (rest : List Turn) (d : Crossing)
      → AreNext parties (after_picks parties (crosses_at w) picks) rest
      → made ≡ run_events parties w picks rest
      → d ≡ after_turns parties (after_picks parties (crosses_at w) picks) rest
      → IsLateTurn (next_turn d.world d.new) → IsMadeUntilLate parties w picks made

-- the turns follow until the next one is too late; and the new world stands after them
pub record PicksUntilLate (old new : WorldValue) (picks : List Pick) (events : List Event)
    : Type 0 where
  pub made : List Event
  pub until :
      IsMadeUntilLate (parties_of old) (link_after old events) (link_picks picks) made
  pub early : AllByRecursion IsEarly made
  pub shows : ShowsRun new (events ++ made)

abbrev pub DrainsBy :
    WorldValue → WorldValue → List Pick → Result Drained DrainRefused → Type 0
DrainsBy old new picks (Ok drained) = InEveryRun (PicksAll old new picks drained) old new
DrainsBy old new picks (Err causes.TooLate) = InEveryRun (PicksUntilLate old new picks) old new
DrainsBy old new picks (Err causes.Memory) = new.spent ≡ true

-- ---- sessions are completed

-- the events are no more than this; each session that was open at its sender is noted there as sent;
-- and its red part had been handed up, or is in the drain
pub record PicksCompleted (parties : Party × Party) (w : World) (picks : List LinkPick)
    (drained : Drained) (most : World → ℕ) : Type 0 where
  pub end : World
  pub run : PickedRun parties w picks drained.events end
  pub bound : drained.events ≤ most end
  pub sent :
      (o : LinkEnd) (n : ℕ) → IsKeptSender (view parties w o n).sender
      → TellsNote drained.effects (named o) (notes.Sent n)
  pub handed :
      (o : LinkEnd) (n : ℕ) → IsKeptSender (view parties w o n).sender
      → IsHanded (view parties w o n).receiver ⊎ TellsUp drained.effects (named (other o)) n

-- wherever the world stands, hopeful and with room, and no pick is of an old datagram: within what
-- the sessions cost
abbrev pub CompletesBy : WorldValue → List Pick → Drained → Type 0
CompletesBy v picks drained =
    (events : List Event) → ShowsRun v events
    → Hopeful (parties_of v) (link_after v events) → Room (link_after v events)
    → PicksNew (link_picks picks)
    → PicksCompleted (parties_of v) (link_after v events) (link_picks picks) drained
    (cost (parties_of v) (link_after v events))

-- at no event is a session closed to make room for another, nor turned away for want of it
pub record TurnsNobodyAway (steps : List (List EndEffects)) : Type 0 where
  pub evicted : (o : LinkEnd) (n : ℕ) → TellsNote steps (named o) (notes.Evicted n) → ⊥
  pub full : (o : LinkEnd) (n : ℕ) → TellsNote steps (named o) (notes.HistoryFull n) → ⊥

-- whatever the picks, where at most 100,000 old datagrams come once more and nobody is turned away:
-- within what the sessions cost and three events for each of these
abbrev pub CompletesWithCopies : WorldValue → List Pick → Drained → Type 0
CompletesWithCopies v picks drained =
    (events : List Event) → ShowsRun v events
    → Hopeful (parties_of v) (link_after v events) → Room (link_after v events)
    → copies (parties_of v) (crosses_at (link_after v events)) (link_picks picks) ≤ 100000
    → TurnsNobodyAway drained.effects
    → PicksCompleted (parties_of v) (link_after v events) (link_picks picks) drained
    (λ end. cost (parties_of v) (link_after v events) end
    + 3 * copies (parties_of v) (crosses_at (link_after v events)) (link_picks picks))
