-- When a path that stops losing completes its sessions, and what that costs: what holds of a link
-- holds of both.

use Rattle.std.specs.Prelude.{◌≡◌, ℕ, ◌+◌, List, Ok}
use Rattle.endpoint.specs.declared.name.Endpoint.{Endpoint}
use Rattle.ltp_segment.specs.Policy.{PolicyValue, policy_of}
use Rattle.ltp_laws.specs.View.{View, view}
use Rattle.ltp_drain.specs.Hopeful.{AreAlike, Hopeful, cost}
use Rattle.gate_cases.specs.declared.face.Face.{Face}
use Rattle.gate_cases.specs.declared.face.Face.TheVariants as faces
use Rattle.path_laws.specs.declared.places.Place.{Place}
use Rattle.path_laws.specs.Places.{link_of, link_end_of}
use Rattle.path_laws.specs.Path.{PathSetup, Path, PathEvent, path_setup, starts_path, path_run}
use Rattle.path_laws.specs.Laws.{IsLinked}
use Rattle.path_laws.specs.Links.{link_parties, link_at}

-- session n that a place sends across its link
abbrev pub session_at : PathSetup → Path → Place → ℕ → View
session_at s w place n =
    view (link_parties s (link_of place)) (link_at (link_of place) w) (link_end_of place) n

-- the engines of each link are alike
pub record AreAlikeOnPath (s : PathSetup) : Type 0 where
  pub each : (face : Face) → AreAlike (link_parties s face)

-- the engines of each link name each other, and are alike
pub record IsFitPath (s : PathSetup) : Type 0 where
  pub linked : IsLinked s
  pub alike : AreAlikeOnPath s

-- so they are on every path that can be set up: whatever policy all four engines were given
abbrev pub PathsAreFit : Type 0
PathsAreFit =
    (gate : Endpoint) (segment timeout limit cap cut : ℕ) (policy : PolicyValue)
    → policy_of segment timeout limit cap ≡ Ok policy → IsFitPath (path_setup gate policy cut)

-- a run leads to a path
pub record IsPathReached (s : PathSetup) (w : Path) : Type 0 where
  pub start : ℕ
  pub events : List PathEvent
  pub leads : path_run s (starts_path s start) events ≡ w

-- both links are hopeful
pub record PathHopeful (s : PathSetup) (w : Path) : Type 0 where
  pub each : (face : Face) → Hopeful (link_parties s face) (link_at face w)

-- what all sessions of one link cost from w to v
abbrev pub link_cost : PathSetup → Path → Path → Face → ℕ
link_cost s w v face = cost (link_parties s face) (link_at face w) (link_at face v)

-- what all sessions of a path cost from w to v: those that are kept in w, and those that were begun
-- since
abbrev pub path_cost : PathSetup → Path → Path → ℕ
path_cost s w v = link_cost s w v faces.Old + link_cost s w v faces.New
