-- How much is left of a drain of a path: what ends every drain. A delivery makes less than what was
-- delivered weighs, but where a report begins another round, and where a block comes whole to the
-- gate, which begins sessions then. A round raises a serial, and a session takes a number; both are
-- bounded.

use Rattle.std.specs.Prelude.{◌≡◌, ℕ, ◌+◌, ◌-◌, ◌*◌, ◌^◌, ◌<◌, ◌≤◌, List, [], ◌∷◌, drop, Option}
use Rattle.std.specs.Prelude.{None, Some}
use Rattle.gate_cases.specs.declared.face.Face.{Face}
use Rattle.ltp_session.specs.Engine.{Engine}
use Rattle.ltp_session.specs.World.{End, World, at_end}
use Rattle.ltp_drain.specs.Left.{AreTimed, burden, round_burden, senders_left, sent_burden}
use Rattle.path_drain.specs.Clean.{path_clean_event}
use Rattle.path_laws.specs.Links.{link_parties}
use Rattle.path_laws.specs.Path.{Path, PathEvent, PathSetup, SentFrom, clock_shows, delivers}
use Rattle.path_laws.specs.Path.{path_run, path_step, sends, starts_path}

-- ---- what is left

-- the most that is left of a session of a block of so many octets once it is begun: its rounds, and
-- its segments
abbrev pub session_left : ℕ → ℕ
session_left most = 2 ^ 64 * round_burden most + 3 * most

-- what is left of the sessions that an engine sends, and of those that it may yet begin
abbrev pub engine_left : ℕ → Engine → ℕ
engine_left most e = (2 ^ 32 - e.next) * session_left most + senders_left e.senders

-- what was sent and isn't delivered yet
unfoldable pub path_burden : List SentFrom → ℕ
path_burden [] = 0
path_burden (d ∷ ds) = burden d.segment.content + path_burden ds

-- at the four engines, and of what was sent all but the first k, which are delivered or lost
abbrev pub path_left : ℕ → Path → ℕ → ℕ
path_left most w k =
    engine_left most w.nodes.0 + engine_left most w.gate.engines.0
    + engine_left most w.gate.engines.1 + engine_left most w.nodes.1
    + path_burden (drop k w.sent)

-- the same of one link
abbrev pub all_left : ℕ → World → ℕ → ℕ
all_left most w k =
    engine_left most w.engines.0 + engine_left most w.engines.1 + sent_burden (drop k w.sent)

-- ---- every drain of a path ends

-- the engines of each link name each other, their numbers fit in a segment's fields, and they wait
-- for answers; no block is longer than this
pub record IsTimed (s : PathSetup) (most : ℕ) : Type 0 where
  pub links : (face : Face) → AreTimed (link_parties s face)
  pub fits : (face : Face) (o : End) → (at_end (link_parties s face) o).most ≤ most

-- a delivery leaves less, and a clock shows a later moment; nothing is sent besides
abbrev pub PathWearsOut : ℕ → PathSetup → Path → ℕ → PathEvent → Type 0
PathWearsOut most s w c (sends end block) = ⊥
PathWearsOut most s w c (delivers k) =
    path_left most (path_step s w (delivers k)).path (c + 1) < path_left most w c
PathWearsOut most s w c (clock_shows now) = w.now < now

-- each clean event of every path that a run leads to, hopeful or not
abbrev pub PathDrainsWearOut : Type 0
PathDrainsWearOut =
    (s : PathSetup) (start most c : ℕ) (events : List PathEvent) (event : PathEvent)
    → IsTimed s most
    → path_clean_event (path_run s (starts_path s start) events) c ≡ Some event
    → PathWearsOut most s (path_run s (starts_path s start) events) c event

-- ---- and so there is an end

-- a clock is set to a moment before this one
abbrev pub IsBefore : ℕ → PathEvent → Type 0
IsBefore top (sends end block) = Unit {0}
IsBefore top (delivers k) = Unit {0}
IsBefore top (clock_shows now) = now < top

-- no clean event can follow, or the next one is a clock that would show this moment or a later one
abbrev pub IsOverBy : ℕ → Option PathEvent → Type 0
IsOverBy top None = Unit {0}
IsOverBy top (Some (sends end block)) = ⊥
IsOverBy top (Some (delivers k)) = ⊥
IsOverBy top (Some (clock_shows now)) = top ≤ now
