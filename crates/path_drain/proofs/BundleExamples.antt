-- A bundle that a drain takes from the old node to the new one: the path is ready, and all that
-- happens is computed.

use Rattle.std.proofs.Common.{◌≡◌, ℕ, ◌-◌, ◌<◌, ◌≤◌, ◌^◌, ◌==◌, [], ◌∷◌, None, arith, length, refl}
use Rattle.sdnv.specs.Reading.{read_of}
use Rattle.sdnv.specs.Spelling.{sum_of}
use Rattle.crc_fields.specs.Crc.{take_bits}
use Rattle.endpoint.specs.declared.name.Endpoint.TheVariants.{Ipn}
use Rattle.wire_fields.specs.Words.{until}
use Rattle.bundle6.specs.Names.{resolve}
use Rattle.bundle6.specs.Table.{block, bundle, dictionary, four_names, next_block, offsets, primary}
use Rattle.bundle6.specs.Table.{references}
use Rattle.bundle7.specs.Spelling.{bare_octets, blocks_octets, crc_octets, main_octets, octets7}
use Rattle.bundle7.specs.Spelling.{with_check}
use Rattle.translate.specs.Reading6.{are_apart6, are_residues6, payload_in, residue_in6}
use Rattle.translate.specs.View7.{blocks7_of}
use Rattle.spans.specs.Places.{runs_of}
use Rattle.ltp_segment.specs.declared.session.Note.TheVariants as notes
use Rattle.ltp_session.specs.Engine.{arrives, closed_runs, datagram_step, evicted_of}
use Rattle.ltp_session.specs.Engine.{least_deadline, submits, tick_remarks, tick_segments}
use Rattle.ltp_session.specs.Engine.{tick_step, untouched, with_receiver}
use Rattle.ltp_session.specs.Cells.{all_octets, filled}
use Rattle.ltp_session.specs.Claims.{claims_below, report_on, with_claims, with_range}
use Rattle.ltp_session.specs.Receiver.{acknowledged, piece_step, receiver_answers, report_of}
use Rattle.ltp_session.specs.Sender.{begin, green_pieces, last_segment, red_pieces, report_step}
use Rattle.ltp_session.specs.Sender.{segments_from, sender_answers, sender_tick}
use Rattle.ltp_session.specs.Table.{ended, find, put, ticked, without}
use Rattle.ltp_session.specs.World.{End, at_end, first_end, other, second_end}
use Rattle.ltp_laws.specs.Kept.{IfKept}
use Rattle.ltp_laws.specs.View.{view}
use Rattle.ltp_laws.proofs.ListLemmas.{both_arms}
use Rattle.ltp_drain.specs.Hopeful.{Hopeful, IsHopeful, limit_at}
use Rattle.gate_cases.specs.declared.face.Face.{Face}
use Rattle.gate_cases.specs.declared.face.Face.TheVariants as faces
use Rattle.gate_cases.specs.Blocks.{found_at}
use Rattle.gate_cases.specs.Cases.{case_of, judged}
use Rattle.gateway_core.specs.declared.note.GateNote.TheVariants as gate_notes
use Rattle.gateway_core.specs.Gate.{and_then, answers_at, arrives_at, decides_at, in_turn, sends_at}
use Rattle.gateway_core.specs.Gate.{ticks_gate}
use Rattle.path_laws.specs.declared.places.PathEnd.TheVariants as ends
use Rattle.path_laws.specs.declared.places.Place.TheVariants as places
use Rattle.path_laws.specs.Links.{link_at, link_parties}
use Rattle.path_laws.specs.Log.{a_piece, begun_in, passed_begun, pieces_begun, ups_in}
use Rattle.path_laws.specs.Path.{note_from, path_run, path_step, then_does}
use Rattle.path_drain.specs.BundleExamples.{bundle_drained, bundle_lost, bundle_policy}
use Rattle.path_drain.specs.BundleExamples.{bundle_setup, bundle_start, drains_bundle, new_bundle}
use Rattle.path_drain.specs.BundleExamples.{old_bundle, sends_bundle}
use Rattle.path_drain.specs.Clean.{AreCleanOnPathFrom, path_clean_event, path_passed}
use Rattle.path_drain.specs.Completion.{IsPathReady}
use Rattle.path_drain.specs.Effects.{notes_in}
use Rattle.path_drain.specs.Hopeful.{IsFitPath}
use Rattle.path_drain.specs.OnTheWay.{gate_at, node_at, piece_count, sum_on_way, will_begin}
use Rattle.path_drain.specs.PathRoom.{HasRoomFor, PathRoom}
use Rattle.path_drain.specs.WholeRun.{IsRunComplete}
use Rattle.path_drain.proofs.PolicyLemmas.{paths-fit}
use Rattle.path_drain.proofs.WholeRuns.{whole-runs}

-- ---- the path is ready

fit : IsFitPath bundle_setup
fit = paths-fit (Ipn 9 0) 1024 10000 10 10000 65536 bundle_policy refl

lost-hopeful : (face : Face) → Hopeful (link_parties bundle_setup face) (link_at face bundle_lost)
unfolding path_run path_step submits begin segments_from last_segment red_pieces green_pieces find
    put
lost-hopeful face = record { sessions = by face; numbers = numbers face }
  where
    by : (face : Face) (o : End) (n : ℕ) → IsHopeful
        (limit_at (link_parties bundle_setup face) o)
        (limit_at (link_parties bundle_setup face) (other o))
        (view (link_parties bundle_setup face) (link_at face bundle_lost) o n)
    by faces.Old first_end n = record {
      sender = both_arms (IfKept _) (1 == n) _ _
          (record { phase = (omega arith, omega arith); unclosed = refl }) tt;
      receiver = tt;
    }
    by faces.Old second_end n = record { sender = tt; receiver = tt }
    by faces.New first_end n = record { sender = tt; receiver = tt }
    by faces.New second_end n = record { sender = tt; receiver = tt }

    numbers : (face : Face) (o : End)
        → (at_end (link_at face bundle_lost).engines o).next < 2 ^ 32 - 2 ^ 22
    numbers faces.Old first_end = omega arith
    numbers faces.Old second_end = omega arith
    numbers faces.New first_end = omega arith
    numbers faces.New second_end = omega arith

-- the bundle goes on in one piece
one-piece : piece_count faces.Old 65536 old_bundle ≡ 1
unfolding piece_count found_at bundle primary offsets four_names dictionary block next_block
    references until resolve read_of sum_of residue_in6 payload_in are_residues6 are_apart6
one-piece = refl

lost-room : PathRoom bundle_setup bundle_lost
unfolding path_run path_step submits begin segments_from last_segment red_pieces green_pieces find
    put closed_runs sum_on_way
lost-room = record { nodes = nodes; faces = by_face }
  where
    nodes : (face : Face) → HasRoomFor 0 (will_begin bundle_setup bundle_lost face)
        (node_at bundle_lost face) (gate_at bundle_lost face)
    nodes faces.Old =
        record { senders = omega arith; receivers = omega arith; numbers = omega arith }
    nodes faces.New = record {
      senders = omega arith;
      receivers = omega (arith, one-piece);
      numbers = omega (arith, one-piece);
    }

    by_face : (face : Face) → HasRoomFor (will_begin bundle_setup bundle_lost face) 0
        (gate_at bundle_lost face) (node_at bundle_lost face)
    by_face faces.Old =
        record { senders = omega arith; receivers = omega arith; numbers = omega arith }
    by_face faces.New = record {
      senders = omega (arith, one-piece);
      receivers = omega arith;
      numbers = omega arith;
    }

pub bundle-ready : IsPathReady bundle_setup bundle_lost
bundle-ready = record {
  linked = fit.linked;
  alike = fit.alike;
  reached = record { start = bundle_start; events = sends_bundle; leads = refl };
  hopeful = record { each = lost-hopeful };
  room = lost-room;
}

-- ---- what seven events do

pub record IsBundleDrained : Type 0 where
  pub clean : AreCleanOnPathFrom bundle_setup bundle_lost drains_bundle
  pub over :
      path_clean_event bundle_drained (path_passed (length bundle_lost.sent) drains_bundle) ≡ None
  pub noted :
      notes_in bundle_setup bundle_lost drains_bundle
      ≡ record { place = places.OldFace; note = gate_notes.Passed 1 1 }
      ∷ note_from places.OldNode (notes.Sent 1) ∷ note_from places.NewFace (notes.Sent 1) ∷ []
  pub begins :
      begun_in bundle_setup bundle_lost drains_bundle
      ≡ record {
        place = places.NewFace;
        session = 1;
        block = new_bundle;
        origin = a_piece ends.Old 1 0;
      } ∷ []
  pub comes :
      ups_in bundle_setup bundle_lost drains_bundle
      ≡ record { place = places.OldFace; session = 1; body = old_bundle }
      ∷ record { place = places.NewNode; session = 1; body = new_bundle } ∷ []

pub bundle-drained : IsBundleDrained
unfolding path_run path_step submits begin segments_from last_segment red_pieces green_pieces find
    put least_deadline then_does ticks_gate and_then tick_step ticked ended tick_segments
    tick_remarks untouched arrives_at datagram_step arrives with_receiver evicted_of in_turn
    decides_at sends_at judged case_of found_at bundle primary offsets four_names dictionary block
    next_block references until resolve read_of sum_of residue_in6 payload_in are_residues6
    are_apart6 blocks7_of octets7 main_octets bare_octets with_check crc_octets blocks_octets
    take_bits answers_at without notes_in ups_in begun_in passed_begun pieces_begun sender_tick
    receiver_answers closed_runs piece_step filled all_octets sender_answers report_step report_of
    report_on claims_below runs_of with_claims with_range acknowledged
bundle-drained = record {
  clean = (refl, (refl, (refl, (refl, (refl, (refl, (refl, tt)))))));
  over = refl;
  noted = refl;
  begins = refl;
  comes = refl;
}

pub bundle-complete : IsRunComplete bundle_setup bundle_start sends_bundle drains_bundle
bundle-complete =
    whole-runs bundle_setup bundle_start sends_bundle drains_bundle bundle-ready.linked
    bundle-ready.alike bundle-ready.hopeful bundle-ready.room bundle-drained.clean
    bundle-drained.over
