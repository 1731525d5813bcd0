-- A path on which nothing was sent.

use Rattle.std.proofs.Common.{ℕ, arith}
use Rattle.gate_cases.specs.declared.face.Face.{Face}
use Rattle.gate_cases.specs.declared.face.Face.TheVariants as faces
use Rattle.ltp_session.specs.Engine.{closed_runs}
use Rattle.path_laws.specs.Path.{PathSetup, starts_path}
use Rattle.path_drain.specs.OnTheWay.{gate_at, node_at, sum_on_way, will_begin}
use Rattle.path_drain.specs.PathRoom.{HasRoomFor, PathRoom}

pub starts-room : (s : PathSetup) (now : ℕ) → PathRoom s (starts_path s now)
unfolding sum_on_way closed_runs
starts-room s now = record { nodes = nodes; faces = by_face }
  where
    nodes : (face : Face) → HasRoomFor 0 (will_begin s (starts_path s now) face)
        (node_at (starts_path s now) face) (gate_at (starts_path s now) face)
    nodes faces.Old = record {
      senders = omega arith;
      receivers = omega arith;
      numbers = omega arith;
    }
    nodes faces.New = record {
      senders = omega arith;
      receivers = omega arith;
      numbers = omega arith;
    }

    by_face : (face : Face) → HasRoomFor (will_begin s (starts_path s now) face) 0
        (gate_at (starts_path s now) face) (node_at (starts_path s now) face)
    by_face faces.Old = record {
      senders = omega arith;
      receivers = omega arith;
      numbers = omega arith;
    }
    by_face faces.New = record {
      senders = omega arith;
      receivers = omega arith;
      numbers = omega arith;
    }
