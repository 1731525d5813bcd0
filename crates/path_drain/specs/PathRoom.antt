-- Room on a path: each of its four engines has a place for every session that it will send or
-- receive until all that is on its way has come.

use Rattle.std.specs.Prelude.{ℕ, ◌+◌, ◌≤◌, length}
use Rattle.gate_cases.specs.declared.face.Face.{Face}
use Rattle.ltp_session.specs.Engine.{Engine, closed_runs}
use Rattle.ltp_drain.specs.Hopeful.{coming}
use Rattle.path_laws.specs.Path.{Path, PathSetup}
use Rattle.path_drain.specs.OnTheWay.{gate_at, node_at, will_begin}

-- An engine e has room beside its peer f. With the sessions that it will begin it sends at most 64.
-- It receives at most 64, with those that f sends and that are new to it and those that f will
-- begin. With these its runs of closed numbers are at most 65,536.
pub record HasRoomFor (own_begun peer_begun : ℕ) (e f : Engine) : Type 0 where
  pub senders : length e.senders + own_begun ≤ 64
  pub receivers : length e.receivers + (coming e f + peer_begun) ≤ 64
  pub numbers : closed_runs e.closed + length e.receivers + (coming e f + peer_begun) ≤ 65536

-- On the link of each face both engines have room. Only the gateway will begin sessions.
pub record PathRoom (s : PathSetup) (w : Path) : Type 0 where
  pub nodes : (face : Face) → HasRoomFor 0 (will_begin s w face) (node_at w face) (gate_at w face)
  pub faces : (face : Face) → HasRoomFor (will_begin s w face) 0 (gate_at w face) (node_at w face)
