-- Paths that are ready: one on which nothing was sent, and one on which a block was.

use Rattle.std.proofs.Common.{ℕ, ◌-◌, ◌<◌, ◌≤◌, ◌^◌, ◌==◌, [], ◌∷◌, refl, arith}
use Rattle.endpoint.specs.declared.name.Endpoint.{Endpoint}
use Rattle.gate_cases.specs.declared.face.Face.{Face}
use Rattle.gate_cases.specs.declared.face.Face.TheVariants as faces
use Rattle.ltp_session.specs.Engine.{closed_runs, submits}
use Rattle.ltp_session.specs.Examples.{policy}
use Rattle.ltp_session.specs.Sender.{begin, green_pieces, last_segment, red_pieces, segments_from}
use Rattle.ltp_session.specs.Table.{find, put}
use Rattle.ltp_session.specs.World.{End, at_end, first_end, other, second_end}
use Rattle.ltp_laws.specs.Kept.{IfKept}
use Rattle.ltp_laws.specs.View.{view}
use Rattle.ltp_laws.proofs.ListLemmas.{both_arms}
use Rattle.ltp_drain.specs.Hopeful.{Hopeful, IsHopeful, limit_at}
use Rattle.path_laws.specs.declared.places.PathEnd.TheVariants as ends
use Rattle.path_laws.specs.Path.{path_run, path_setup, path_step, sends, starts_path}
use Rattle.path_laws.specs.Links.{link_at, link_parties}
use Rattle.path_drain.specs.OnTheWay.{gate_at, node_at, piece_count, sum_on_way, will_begin}
use Rattle.path_drain.specs.PathRoom.{HasRoomFor, PathRoom}
use Rattle.path_drain.proofs.RoomExamples.{starts-room}
use Rattle.path_drain.specs.Completion.{IsPathReady}
use Rattle.path_drain.specs.ReadyExamples.{path_that_sent}
use Rattle.path_drain.specs.Hopeful.{IsFitPath}
use Rattle.path_drain.proofs.PolicyLemmas.{short-fits}

-- ---- the engines

fit : (gate : Endpoint) (cut : ℕ) → IsFitPath (path_setup gate policy cut)
fit gate cut = short-fits gate cut policy (omega arith) (omega arith, omega arith)

-- ---- nothing was sent

silent-hopeful : (gate : Endpoint) (cut now : ℕ) (face : Face)
    → Hopeful (link_parties (path_setup gate policy cut) face)
    (link_at face (starts_path (path_setup gate policy cut) now))
unfolding find
silent-hopeful gate cut now face = record { sessions = by face; numbers = numbers face }
  where
    by : (face : Face) (o : End) (n : ℕ) → IsHopeful
        (limit_at (link_parties (path_setup gate policy cut) face) o)
        (limit_at (link_parties (path_setup gate policy cut) face) (other o))
        (view (link_parties (path_setup gate policy cut) face)
        (link_at face (starts_path (path_setup gate policy cut) now)) o n)
    by faces.Old first_end n = record { sender = tt; receiver = tt }
    by faces.Old second_end n = record { sender = tt; receiver = tt }
    by faces.New first_end n = record { sender = tt; receiver = tt }
    by faces.New second_end n = record { sender = tt; receiver = tt }

    numbers : (face : Face) (o : End) → (at_end (link_at face
        (starts_path (path_setup gate policy cut) now)).engines o).next < 2 ^ 32 - 2 ^ 22
    numbers faces.Old first_end = omega arith
    numbers faces.Old second_end = omega arith
    numbers faces.New first_end = omega arith
    numbers faces.New second_end = omega arith

pub silent-ready : (gate : Endpoint) (cut now : ℕ)
    → IsPathReady (path_setup gate policy cut) (starts_path (path_setup gate policy cut) now)
unfolding path_run
silent-ready gate cut now = record {
  linked = (fit gate cut).linked;
  alike = (fit gate cut).alike;
  reached = record { start = now; events = []; leads = refl };
  hopeful = record { each = silent-hopeful gate cut now };
  room = starts-room (path_setup gate policy cut) now;
}

-- ---- the old node sent a block of two octets

sent-hopeful : (gate : Endpoint) (cut now x y : ℕ) (face : Face)
    → Hopeful (link_parties (path_setup gate policy cut) face)
    (link_at face (path_that_sent gate cut now (x ∷ y ∷ [])))
unfolding path_run path_step submits begin segments_from last_segment red_pieces green_pieces find
    put
sent-hopeful gate cut now x y face = record { sessions = by face; numbers = numbers face }
  where
    by : (face : Face) (o : End) (n : ℕ) → IsHopeful
        (limit_at (link_parties (path_setup gate policy cut) face) o)
        (limit_at (link_parties (path_setup gate policy cut) face) (other o))
        (view (link_parties (path_setup gate policy cut) face)
        (link_at face (path_that_sent gate cut now (x ∷ y ∷ []))) o n)
    by faces.Old first_end n = record {
      sender = both_arms (IfKept _) (1 == n) _ _
          (record { phase = (omega arith, omega arith); unclosed = refl }) tt;
      receiver = tt;
    }
    by faces.Old second_end n = record { sender = tt; receiver = tt }
    by faces.New first_end n = record { sender = tt; receiver = tt }
    by faces.New second_end n = record { sender = tt; receiver = tt }

    numbers : (face : Face) (o : End) → (at_end (link_at face
        (path_that_sent gate cut now (x ∷ y ∷ []))).engines o).next < 2 ^ 32 - 2 ^ 22
    numbers faces.Old first_end = omega arith
    numbers faces.Old second_end = omega arith
    numbers faces.New first_end = omega arith
    numbers faces.New second_end = omega arith

sent-room : (gate : Endpoint) (cut now x y : ℕ) → piece_count faces.Old cut (x ∷ y ∷ []) ≤ 64
    → PathRoom (path_setup gate policy cut) (path_that_sent gate cut now (x ∷ y ∷ []))
unfolding path_run path_step submits begin segments_from last_segment red_pieces green_pieces find
    put closed_runs sum_on_way
sent-room gate cut now x y few = record { nodes = nodes; faces = by_face }
  where
    nodes : (face : Face) → HasRoomFor 0
        (will_begin (path_setup gate policy cut) (path_that_sent gate cut now (x ∷ y ∷ [])) face)
        (node_at (path_that_sent gate cut now (x ∷ y ∷ [])) face)
        (gate_at (path_that_sent gate cut now (x ∷ y ∷ [])) face)
    nodes faces.Old =
        record { senders = omega arith; receivers = omega arith; numbers = omega arith }
    nodes faces.New = record {
      senders = omega arith;
      receivers = omega (arith, few);
      numbers = omega (arith, few);
    }

    by_face : (face : Face) → HasRoomFor
        (will_begin (path_setup gate policy cut) (path_that_sent gate cut now (x ∷ y ∷ [])) face) 0
        (gate_at (path_that_sent gate cut now (x ∷ y ∷ [])) face)
        (node_at (path_that_sent gate cut now (x ∷ y ∷ [])) face)
    by_face faces.Old =
        record { senders = omega arith; receivers = omega arith; numbers = omega arith }
    by_face faces.New = record {
      senders = omega (arith, few);
      receivers = omega arith;
      numbers = omega arith;
    }

pub sent-ready : (gate : Endpoint) (cut now x y : ℕ)
    → piece_count faces.Old cut (x ∷ y ∷ []) ≤ 64
    → IsPathReady (path_setup gate policy cut) (path_that_sent gate cut now (x ∷ y ∷ []))
sent-ready gate cut now x y few = record {
  linked = (fit gate cut).linked;
  alike = (fit gate cut).alike;
  reached = record { start = now; events = sends ends.Old (x ∷ y ∷ []) ∷ []; leads = refl };
  hopeful = record { each = sent-hopeful gate cut now x y };
  room = sent-room gate cut now x y few;
}
