-- A drain of a path: clean events, one after the other, until none can follow. What was sent before
-- it is lost; whatever is sent from then on, on either link, is delivered, once and in the order in
-- which it was sent; and the clock moves where nothing is left to deliver.

use Rattle.std.specs.Option.{option_map}
use Rattle.std.specs.Prelude.{◌≡◌, ℕ, ◌+◌, nat_lt, List, [], ◌∷◌, length, Option, None, Some}
use Rattle.std.specs.Prelude.{if◌then◌else◌}
use Rattle.ltp_session.specs.Engine.{earlier, next_deadline}
use Rattle.path_laws.specs.Path.{PathSetup, Path, PathEvent, sends, delivers, clock_shows, path_step}
use Rattle.path_laws.specs.Path.{path_run}

-- when a timer of the path is due next: of the old node or the gate's face to it, or of the gate's
-- face to the new node or that node
abbrev pub path_deadline : Path → Option ℕ
path_deadline w =
    earlier (earlier (next_deadline w.nodes.0) (next_deadline w.gate.engines.0))
    (earlier (next_deadline w.gate.engines.1) (next_deadline w.nodes.1))

-- the clean event of a path of which the first c segments are delivered or lost: the next one is
-- delivered; where there is none, the clock is set to the earliest deadline; and where no timer
-- runs either, none
abbrev pub path_clean_event : Path → ℕ → Option PathEvent
path_clean_event w c =
    if nat_lt c (length w.sent) then Some (delivers c)
    else option_map clock_shows (path_deadline w)

-- how many are delivered or lost after an event
abbrev pub path_passed_after : ℕ → PathEvent → ℕ
path_passed_after c (sends end block) = c
path_passed_after c (delivers k) = c + 1
path_passed_after c (clock_shows now) = c

-- each of these events is the clean one of its path
abbrev pub AreCleanOnPath : PathSetup → Path → ℕ → List PathEvent → Type 0
AreCleanOnPath s w c [] = Unit {0}
AreCleanOnPath s w c (event ∷ events) =
    (path_clean_event w c ≡ Some event)
    × AreCleanOnPath s (path_step s w event).path (path_passed_after c event) events

-- how many are delivered or lost after events
abbrev pub path_passed : ℕ → List PathEvent → ℕ
path_passed c [] = c
path_passed c (event ∷ events) = path_passed (path_passed_after c event) events

-- the events are clean from a path on, on which nothing is on its way
abbrev pub AreCleanOnPathFrom : PathSetup → Path → List PathEvent → Type 0
AreCleanOnPathFrom s w events = AreCleanOnPath s w (length w.sent) events

-- nothing is left to do on a path of which the first c segments are delivered or lost: all are, and
-- no timer runs
pub record IsPathDrained (w : Path) (c : ℕ) : Type 0 where
  pub delivered : c ≡ length w.sent
  pub no_timer : path_deadline w ≡ None

-- n clean events lead from w to v, and nothing is left to do in v
pub record PathCleanRun (s : PathSetup) (w : Path) (n : ℕ) (v : Path) : Type 0 where
  pub events : List PathEvent
  pub count : length events ≡ n
  pub clean : AreCleanOnPathFrom s w events
  pub leads : path_run s w events ≡ v
  pub drained : IsPathDrained v (path_passed (length w.sent) events)
