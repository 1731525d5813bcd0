-- A path world of the code stands for a path after a run. The code keeps datagrams, and the
-- definition the segments that they are read as.

use Rattle.std.specs.Prelude.{◌≡◌, ℕ, List, map}
use Rattle.fragments.specs.Again.{IsBounded as IsJoinBounded}
use Rattle.gate_cases.specs.declared.face.Face.{Face}
use Rattle.gateway_core.specs.Shows.{ShowsGate, IsGateBounded}
use Rattle.ltp_laws.specs.Writable.{HasSmallNumbers}
use Rattle.ltp_engine.specs.Bounds.{IsBounded}
use Rattle.ltp_engine.specs.Shows.{Shows}
use Rattle.path_drain.specs.Hopeful.{AreAlikeOnPath}
use Rattle.path_laws.specs.Laws.{IsLinked}
use Rattle.path_laws.specs.Links.{link_parties}
use Rattle.path_laws.specs.Path.{Path, PathEvent, PathSetup, path_run, starts_path}
use Rattle.path_world.specs.Values.{PathValue, setup_of, spelled}

-- the world stands for this path
pub record ShowsPath (v : PathValue) (w : Path) : Type 0 where
  pub old_node : Shows v.nodes.0 w.nodes.0
  pub new_node : Shows v.nodes.1 w.nodes.1
  pub gate : ShowsGate v.gate w.gate
  pub joins : w.joins ≡ v.joins
  pub sent : v.sent ≡ map spelled w.sent
  pub now : w.now ≡ v.moment

-- two engines name each other on each link, and are alike; and their numbers are of 64 bits
pub record IsSmallSetup (s : PathSetup) : Type 0 where
  pub linked : IsLinked s
  pub alike : AreAlikeOnPath s
  pub first_small : (face : Face) → HasSmallNumbers (link_parties s face).0
  pub second_small : (face : Face) → HasSmallNumbers (link_parties s face).1

-- the path after some events, from a moment on
abbrev pub path_after : PathValue → ℕ → List PathEvent → Path
path_after v start events = path_run (setup_of v) (starts_path (setup_of v) start) events

-- the world stands where a run of these events leads, which begins at this moment
pub record ShowsRun (v : PathValue) (start : ℕ) (events : List PathEvent) : Type 0 where
  pub setup : IsSmallSetup (setup_of v)
  pub path : ShowsPath v (path_after v start events)

-- the world stands where some run leads
pub record Stands (v : PathValue) : Type 0 where
  pub start : ℕ
  pub events : List PathEvent
  pub shows : ShowsRun v start events

-- each engine keeps its bounds, and the gate and the joiners theirs
pub record AreBounded (v : PathValue) : Type 0 where
  pub old_node : IsBounded v.nodes.0
  pub new_node : IsBounded v.nodes.1
  pub gate : IsGateBounded v.gate
  pub old_joins : IsJoinBounded v.joins.0
  pub new_joins : IsJoinBounded v.joins.1
