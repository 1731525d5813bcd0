-- What a drain with picks makes on a link, as a list of turns: those of the picks, and then those
-- after them, until none can follow, or until a clock would be set to a moment called top, or to a
-- later one.

use Rattle.std.specs.List.{AllByRecursion}
use Rattle.std.specs.Prelude.{◌≡◌, ℕ, zero, suc, ◌+◌, ◌-◌, nat_lt, nat_le, Bool, false, List, []}
use Rattle.std.specs.Prelude.{◌∷◌, map, Option, None, Some, if◌then◌else◌}
use Rattle.ltp_session.specs.Engine.{Party}
use Rattle.ltp_session.specs.World.{Event, World, clock, deliver, first_end, second_end, submit}
use Rattle.ltp_drain.specs.Hopeful.{IsReached}
use Rattle.ltp_drain.specs.Left.{AreTimed, senders_left, sent_burden}
use Rattle.ltp_picks.specs.Picks.{AreNext, Crossing, Pick, Turn, after_picks, after_turn}
use Rattle.ltp_picks.specs.Picks.{after_turns, crosses_at, events_of, next_turn, old_copy, oldest_of}
use Rattle.replay_script.specs.declared.picks.PickWord.{PickWord}
use Rattle.replay_script.specs.declared.picks.PickWord.TheVariants as words
use Rattle.window_world.specs.Made.{IsBefore, IsOverBy}

-- ---- picks

-- the pick that a line says
abbrev pub said_pick : PickWord → Pick
said_pick words.First = oldest_of first_end
said_pick words.Second = oldest_of second_end
said_pick (words.Old k) = old_copy k

abbrev pub said_picks : List PickWord → List Pick
said_picks picks = map said_pick picks

-- a clock is set to a moment called top, or to a later one
abbrev pub is_past : ℕ → Event → Bool
is_past top (submit end block red) = false
is_past top (deliver k) = false
is_past top (clock now) = nat_le top now

-- ---- after the picks

-- how much is left to deliver
abbrev pub crossing_left : Crossing → ℕ
crossing_left d =
    senders_left d.world.engines.0.senders + senders_left d.world.engines.1.senders
    + sent_burden (map (λ e. e.sent) d.new)

-- what is done from a drain on
abbrev pub Onward : Type 0
Onward = Crossing → List Turn

-- one turn, and what is done after it
abbrev pub turn_then : Party × Party → Crossing → Turn → Onward → List Turn
turn_then parties d t onward = t ∷ onward (after_turn parties d t)

-- a turn by its event: after a delivery it goes on at this moment, and after a clock at a later one
abbrev pub turn_by : ℕ → Party × Party → Crossing → Onward → Onward → Turn → Event → List Turn
-- no turn submits a block
turn_by top parties d same later t (submit end block red) = []
turn_by top parties d same later t (deliver k) = turn_then parties d t same
turn_by top parties d same later t (clock now) =
    if nat_lt now top then turn_then parties d t later else []

-- the next turn, if there is one
abbrev pub next_and_on : ℕ → Party × Party → Crossing → Onward → Onward → Option Turn → List Turn
next_and_on top parties d same later None = []
next_and_on top parties d same later (Some t) = turn_by top parties d same later t t.event

-- the turns of so many moments at most, and of so many turns at the first of them
unfoldable pub turns_within : ℕ → ℕ → ℕ → Party × Party → Onward
turns_within zero n top parties d = []
turns_within (suc m) zero top parties d = []
turns_within (suc m) (suc n) top parties d =
    next_and_on top parties d (turns_within (suc m) n top parties)
    (λ e. turns_within m (suc (crossing_left e)) top parties e) (next_turn d.world d.new)

-- The turns that follow in a drain. Both counts only bound the recursion, and are enough
-- (`turns_are_made`): each clock is set to a later moment, and each delivery leaves less.
unfoldable pub turns_after : (top : ℕ) → Party × Party → Crossing → List Turn
turns_after top parties d =
    turns_within (suc (top - d.world.now)) (suc (crossing_left d)) top parties d

-- ---- they are what follows, and nothing else does

-- no turn can follow, or it would set the clock to top or later
abbrev pub IsOverTurn : ℕ → Option Turn → Type 0
IsOverTurn top None = Unit {0}
IsOverTurn top (Some t) = IsOverBy top (Some t.event)

-- these turns follow one another in a drain; each clock is set to a moment before top; and then it
-- is over
pub record EndsTurns (top : ℕ) (parties : Party × Party) (d : Crossing) (turns : List Turn) : Type 0
  where
    pub next : AreNext parties d turns
    pub early : AllByRecursion (IsBefore top) (events_of turns)
    pub over :
        IsOverTurn top
        (next_turn (after_turns parties d turns).world (after_turns parties d turns).new)

-- after the picks of a drain, from every link that a run leads to, hopeful or not
abbrev pub TurnsAreMade : Type 0
TurnsAreMade =
    (top : ℕ) (parties : Party × Party) (w : World) (picks : List Pick) → AreTimed parties
    → IsReached parties w
    → EndsTurns top parties (after_picks parties (crosses_at w) picks)
    (turns_after top parties (after_picks parties (crosses_at w) picks))

-- no other turns lead to where it is over
abbrev pub TurnsAreOne : Type 0
TurnsAreOne =
    (top : ℕ) (parties : Party × Party) (w : World) (picks : List Pick) (turns : List Turn)
    → AreTimed parties → IsReached parties w
    → EndsTurns top parties (after_picks parties (crosses_at w) picks) turns
    → turns ≡ turns_after top parties (after_picks parties (crosses_at w) picks)
