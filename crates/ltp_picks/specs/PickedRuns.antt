-- What a drain with picks promises: from a hopeful link with room it completes all sessions, and
-- an old segment that comes once more costs no more than three events.

use Rattle.std.specs.Prelude.{◌≡◌, ℕ, ◌+◌, ◌*◌, ◌≤◌, List, [], ◌∷◌, ◌++◌, length}
use Rattle.ltp_segment.specs.declared.session.Note.TheVariants as notes
use Rattle.ltp_session.specs.Engine.{Party}
use Rattle.ltp_session.specs.World.{End, Event, World}
use Rattle.ltp_drain.specs.Completion.{IsComplete, IsReady}
use Rattle.ltp_drain.specs.Effects.{EndEffects, IsNoted, effects_in}
use Rattle.ltp_drain.specs.Hopeful.{cost}
use Rattle.ltp_picks.specs.Picks.{AreNext, IsOver, Pick, Turn, after_picks, after_turns}
use Rattle.ltp_picks.specs.Picks.{copies, crosses_at, events_of, old_copy, oldest_of, picked_turns}

-- the drain that picks begin in w: n events lead to v, where nothing is left to do
pub record PickedRun (parties : Party × Party) (w : World) (picks : List Pick) (n : ℕ) (v : World)
    : Type 0 where
  pub rest : List Turn
  pub goes_on : AreNext parties (after_picks parties (crosses_at w) picks) rest
  pub count : length (picked_turns parties (crosses_at w) picks) + length rest ≡ n
  pub over : IsOver (after_turns parties (after_picks parties (crosses_at w) picks) rest)
  pub leads : (after_turns parties (after_picks parties (crosses_at w) picks) rest).world ≡ v

-- its events: those of the picks, and those after them
abbrev pub run_events : Party × Party → World → List Pick → List Turn → List Event
run_events parties w picks rest =
    events_of (picked_turns parties (crosses_at w) picks ++ rest)

-- ---- picks without old segments

-- no pick is of an old segment
abbrev pub PicksNew : List Pick → Type 0
PicksNew [] = Unit {0}
PicksNew (oldest_of from ∷ picks) = PicksNew picks
PicksNew (old_copy k ∷ picks) = ⊥

-- whatever way the directions cross, the events are no more than the sessions cost
abbrev pub CrossingEventsAreFew : Type 0
CrossingEventsAreFew =
    (parties : Party × Party) (w : World) (picks : List Pick) (n : ℕ) (v : World)
    → IsReady parties w → PicksNew picks → PickedRun parties w picks n v → n ≤ cost parties w v

-- and they complete the sessions
abbrev pub CrossingRunsComplete : Type 0
CrossingRunsComplete =
    (parties : Party × Party) (w : World) (picks : List Pick) (n : ℕ) (v : World)
    → IsReady parties w → PicksNew picks → (drain : PickedRun parties w picks n v)
    → IsComplete parties w (run_events parties w picks drain.rest) v

-- there is such a run
pub record HasPickedRun (parties : Party × Party) (w : World) (picks : List Pick) : Type 0 where
  pub n : ℕ
  pub v : World
  pub run : PickedRun parties w picks n v
  pub bound : n ≤ cost parties w v

abbrev pub CrossingRunsEnd : Type 0
CrossingRunsEnd =
    (parties : Party × Party) (w : World) (picks : List Pick) → IsReady parties w
    → PicksNew picks → HasPickedRun parties w picks

-- ---- picks with old segments

-- nobody is closed to make room for another session, and none is turned away for want of it
pub record NoneTurnedAway (es : List EndEffects) : Type 0 where
  pub evicted : (end : End) (n : ℕ) → IsNoted es end (notes.Evicted n) → ⊥
  pub full : (end : End) (n : ℕ) → IsNoted es end (notes.HistoryFull n) → ⊥

-- such a run in which at most 100,000 old segments come once more, and nobody is turned away
pub record IsCopiedRun (parties : Party × Party) (w : World) (picks : List Pick) (n : ℕ) (v : World)
    : Type 0 where
  pub run : PickedRun parties w picks n v
  pub few : copies parties (crosses_at w) picks ≤ 100000
  pub spared : NoneTurnedAway (effects_in parties w (run_events parties w picks run.rest))

-- the events are no more than the sessions cost, and three for each old segment that comes
abbrev pub CopiesCostThree : Type 0
CopiesCostThree =
    (parties : Party × Party) (w : World) (picks : List Pick) (n : ℕ) (v : World)
    → IsReady parties w → IsCopiedRun parties w picks n v
    → n ≤ cost parties w v + 3 * copies parties (crosses_at w) picks

-- and they complete the sessions
abbrev pub CopiedRunsComplete : Type 0
CopiedRunsComplete =
    (parties : Party × Party) (w : World) (picks : List Pick) (n : ℕ) (v : World)
    → IsReady parties w → (drain : IsCopiedRun parties w picks n v)
    → IsComplete parties w (run_events parties w picks drain.run.rest) v
