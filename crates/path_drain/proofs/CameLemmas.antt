-- A path on which a block came, and the report on it is lost.

use Rattle.std.proofs.Common.{◌≡◌, ℕ, ◌<◌, ◌-◌, ◌^◌, ◌==◌, [], ◌∷◌, None, arith, length, refl}
use Rattle.endpoint.specs.declared.name.Endpoint.{Endpoint}
use Rattle.bundle6.specs.Table.{bundle, primary}
use Rattle.spans.specs.Places.{runs_of}
use Rattle.ltp_segment.specs.declared.session.Note.TheVariants as notes
use Rattle.ltp_session.specs.Cells.{all_octets, filled}
use Rattle.ltp_session.specs.Claims.{claims_below, report_on, with_claims, with_range}
use Rattle.ltp_session.specs.Engine.{arrives, closed_runs, datagram_step, evicted_of, least_deadline}
use Rattle.ltp_session.specs.Engine.{submits, tick_remarks, tick_segments, tick_step, untouched}
use Rattle.ltp_session.specs.Engine.{with_receiver}
use Rattle.ltp_session.specs.Receiver.{acknowledged, piece_step, receiver_answers, receiver_tick}
use Rattle.ltp_session.specs.Receiver.{report_of}
use Rattle.ltp_session.specs.Sender.{begin, green_pieces, last_segment, red_pieces, report_step}
use Rattle.ltp_session.specs.Sender.{segments_from, sender_answers, sender_tick}
use Rattle.ltp_session.specs.Table.{ended, find, put, ticked, without}
use Rattle.ltp_session.specs.World.{End, at_end, first_end, other, second_end}
use Rattle.ltp_laws.specs.Kept.{IfKept}
use Rattle.ltp_laws.specs.View.{view}
use Rattle.ltp_laws.proofs.ListLemmas.{both_arms}
use Rattle.ltp_drain.specs.Hopeful.{Hopeful, IsHopeful, limit_at}
use Rattle.gate_cases.specs.declared.face.Face.{Face}
use Rattle.gate_cases.specs.declared.face.Face.TheVariants as faces
use Rattle.gate_cases.specs.Blocks.{found_at}
use Rattle.gate_cases.specs.Cases.{case_of, judged}
use Rattle.gateway_core.specs.Gate.{and_then, answers_at, arrives_at, decides_at, in_turn, ticks_gate}
use Rattle.path_laws.specs.declared.places.Place.TheVariants as places
use Rattle.path_laws.specs.Links.{link_at, link_parties}
use Rattle.path_laws.specs.Log.{ups_in}
use Rattle.path_laws.specs.Path.{Path, note_from, path_run, path_step, then_does}
use Rattle.path_drain.specs.OnTheWay.{gate_at, node_at, sum_on_way, will_begin}
use Rattle.path_drain.specs.PathRoom.{HasRoomFor, PathRoom}
use Rattle.path_drain.specs.Clean.{AreCleanOnPathFrom, path_clean_event, path_passed}
use Rattle.path_drain.specs.Effects.{notes_in}
use Rattle.path_drain.proofs.ReadyExamples.{silent-ready}
use Rattle.path_drain.specs.DrainedExamples.{drains_one_report, hands_up_no_bundle}
use Rattle.path_drain.specs.Runs.{run_path, run_ups}
use Rattle.path_drain.specs.WholeRun.{IsRunComplete}
use Rattle.path_drain.proofs.DrainedExamples.{setup}
use Rattle.path_drain.proofs.WholeRuns.{whole-runs}

-- where the drain begins
abbrev pub came : Endpoint → ℕ → Path
came gate cut = run_path (setup gate cut) 0 hands_up_no_bundle

-- ---- it is hopeful, and has room

came-hopeful : (gate : Endpoint) (cut : ℕ) (face : Face)
    → Hopeful (link_parties (setup gate cut) face) (link_at face (came gate cut))
unfolding path_run path_step submits begin segments_from last_segment red_pieces green_pieces find
    put arrives_at datagram_step arrives with_receiver evicted_of and_then in_turn decides_at judged
    case_of found_at bundle primary answers_at receiver_answers closed_runs piece_step filled
    all_octets report_of report_on claims_below runs_of with_claims with_range untouched
came-hopeful gate cut face = record { sessions = by face; numbers = numbers face }
  where
    by : (face : Face) (o : End) (n : ℕ) → IsHopeful
        (limit_at (link_parties (setup gate cut) face) o)
        (limit_at (link_parties (setup gate cut) face) (other o))
        (view (link_parties (setup gate cut) face) (link_at face (came gate cut)) o n)
    by faces.Old first_end n = record {
      sender = both_arms (IfKept _) (1 == n) _ _
          (record { phase = (omega arith, omega arith); unclosed = refl }) tt;
      receiver = both_arms (IfKept _) (1 == n) _ _
          (record { phase = omega arith; serial = omega arith }) tt;
    }
    by faces.Old second_end n = record { sender = tt; receiver = tt }
    by faces.New first_end n = record { sender = tt; receiver = tt }
    by faces.New second_end n = record { sender = tt; receiver = tt }

    numbers : (face : Face) (o : End)
        → (at_end (link_at face (came gate cut)).engines o).next < 2 ^ 32 - 2 ^ 22
    numbers faces.Old first_end = omega arith
    numbers faces.Old second_end = omega arith
    numbers faces.New first_end = omega arith
    numbers faces.New second_end = omega arith

came-room : (gate : Endpoint) (cut : ℕ) → PathRoom (setup gate cut) (came gate cut)
unfolding path_run path_step submits begin segments_from last_segment red_pieces green_pieces find
    put arrives_at datagram_step arrives with_receiver evicted_of and_then in_turn decides_at judged
    case_of found_at bundle primary answers_at receiver_answers closed_runs piece_step filled
    all_octets report_of report_on claims_below runs_of with_claims with_range untouched sum_on_way
came-room gate cut = record { nodes = nodes; faces = by_face }
  where
    nodes : (face : Face) → HasRoomFor 0 (will_begin (setup gate cut) (came gate cut) face)
        (node_at (came gate cut) face) (gate_at (came gate cut) face)
    nodes faces.Old =
        record { senders = omega arith; receivers = omega arith; numbers = omega arith }
    nodes faces.New =
        record { senders = omega arith; receivers = omega arith; numbers = omega arith }

    by_face : (face : Face) → HasRoomFor (will_begin (setup gate cut) (came gate cut) face) 0
        (gate_at (came gate cut) face) (node_at (came gate cut) face)
    by_face faces.Old =
        record { senders = omega arith; receivers = omega arith; numbers = omega arith }
    by_face faces.New =
        record { senders = omega arith; receivers = omega arith; numbers = omega arith }

-- ---- six events

pub record CameDrained (gate : Endpoint) (cut : ℕ) : Type 0 where
  pub clean : AreCleanOnPathFrom (setup gate cut) (came gate cut) drains_one_report
  pub over :
      path_clean_event (path_run (setup gate cut) (came gate cut) drains_one_report)
      (path_passed (length (came gate cut).sent) drains_one_report)
      ≡ None
  pub noted :
      notes_in (setup gate cut) (came gate cut) drains_one_report
      ≡ note_from places.OldNode (notes.Sent 1) ∷ []
  pub none_since : ups_in (setup gate cut) (came gate cut) drains_one_report ≡ []
  pub before :
      run_ups (setup gate cut) 0 hands_up_no_bundle
      ≡ record { place = places.OldFace; session = 1; body = 7 ∷ 8 ∷ [] } ∷ []

pub came-drained : (gate : Endpoint) (cut : ℕ) → CameDrained gate cut
unfolding path_run path_step submits begin segments_from last_segment red_pieces green_pieces find
    put least_deadline then_does ticks_gate and_then tick_step ticked ended tick_segments
    tick_remarks untouched arrives_at datagram_step arrives with_receiver evicted_of in_turn
    decides_at judged case_of found_at bundle primary answers_at without notes_in sender_tick
    receiver_answers closed_runs piece_step filled all_octets sender_answers report_step report_of
    report_on claims_below runs_of with_claims with_range acknowledged ups_in
    receiver_tick
came-drained gate cut = record {
  clean = (refl, (refl, (refl, (refl, (refl, (refl, tt))))));
  over = refl;
  noted = refl;
  none_since = refl;
  before = refl;
}

pub came-complete : (gate : Endpoint) (cut : ℕ)
    → IsRunComplete (setup gate cut) 0 hands_up_no_bundle drains_one_report
came-complete gate cut =
    let ready = silent-ready gate cut 0 in
    let drained = came-drained gate cut in
    whole-runs (setup gate cut) 0 hands_up_no_bundle drains_one_report ready.linked ready.alike
    (record { each = came-hopeful gate cut }) (came-room gate cut) drained.clean drained.over
