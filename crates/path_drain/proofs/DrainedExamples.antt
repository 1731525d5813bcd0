-- Whole runs of a path, step by step.

use Rattle.std.proofs.Common.{◌≡◌, ℕ, [], ◌∷◌, None, arith, length, refl}
use Rattle.endpoint.specs.declared.name.Endpoint.{Endpoint}
use Rattle.bundle6.specs.declared.fault.Cause6.TheVariants as six
use Rattle.bundle6.specs.Table.{bundle, primary}
use Rattle.spans.specs.Places.{runs_of}
use Rattle.ltp_segment.specs.declared.session.Note.TheVariants as notes
use Rattle.ltp_session.specs.Engine.{arrives, closed_runs, datagram_step, evicted_of, least_deadline}
use Rattle.ltp_session.specs.Engine.{submits, tick_remarks, tick_segments, tick_step, untouched}
use Rattle.ltp_session.specs.Engine.{with_receiver}
use Rattle.ltp_session.specs.Examples.{policy}
use Rattle.ltp_session.specs.Cells.{all_octets, filled}
use Rattle.ltp_session.specs.Claims.{claims_below, report_on, with_claims, with_range}
use Rattle.ltp_session.specs.Receiver.{acknowledged, piece_step, receiver_answers, report_of}
use Rattle.ltp_session.specs.Sender.{begin, green_pieces, last_segment, red_pieces, report_step}
use Rattle.ltp_session.specs.Sender.{segments_from, sender_answers, sender_tick}
use Rattle.ltp_session.specs.Table.{ended, find, put, ticked, without}
use Rattle.gate_cases.specs.declared.cause.BadCause.TheVariants.{Six}
use Rattle.gate_cases.specs.declared.face.Face.TheVariants as faces
use Rattle.gate_cases.specs.Blocks.{found_at}
use Rattle.gate_cases.specs.Cases.{case_of, judged}
use Rattle.gateway_core.specs.declared.note.GateNote.TheVariants as gate_notes
use Rattle.gateway_core.specs.Gate.{and_then, answers_at, arrives_at, decides_at, in_turn, ticks_gate}
use Rattle.path_laws.specs.declared.places.Place.TheVariants as places
use Rattle.path_laws.specs.Path.{Path, PathSetup, note_from, path_run, path_setup, path_step}
use Rattle.path_laws.specs.Path.{then_does}
use Rattle.path_drain.specs.OnTheWay.{piece_count}
use Rattle.path_drain.specs.Clean.{AreCleanOnPathFrom, path_clean_event, path_passed}
use Rattle.path_drain.specs.Completion.{IsPathReady}
use Rattle.path_drain.specs.Effects.{notes_in}
use Rattle.path_drain.proofs.ReadyExamples.{sent-ready, silent-ready}
use Rattle.path_drain.specs.DrainedExamples.{drains_one_block, sends_no_bundle}
use Rattle.path_drain.specs.Runs.{run_path}
use Rattle.path_drain.specs.WholeRun.{IsRunComplete}
use Rattle.path_drain.proofs.WholeRuns.{whole-runs}

-- ---- nothing was sent

pub silent-complete : (gate : Endpoint) (cut now : ℕ)
    → IsRunComplete (path_setup gate policy cut) now [] []
unfolding path_run least_deadline
silent-complete gate cut now =
    let ready = silent-ready gate cut now in
    whole-runs (path_setup gate policy cut) now [] [] ready.linked ready.alike ready.hopeful
    ready.room tt refl

-- ---- a block was lost

-- two octets that are no bundle become no piece
no-piece : (cut : ℕ) → piece_count faces.Old cut (7 ∷ 8 ∷ []) ≡ 0
unfolding found_at bundle primary piece_count
no-piece cut = refl

block-ready : (gate : Endpoint) (cut : ℕ)
    → IsPathReady (path_setup gate policy cut)
    (run_path (path_setup gate policy cut) 0 sends_no_bundle)
block-ready gate cut = sent-ready gate cut 0 7 8 (omega (arith, no-piece cut))

-- the path, and where the drain begins
abbrev pub setup : Endpoint → ℕ → PathSetup
setup gate cut = path_setup gate policy cut

abbrev pub lost : Endpoint → ℕ → Path
lost gate cut = run_path (setup gate cut) 0 sends_no_bundle

-- what four events do, computed
pub record IsDrained (gate : Endpoint) (cut : ℕ) : Type 0 where
  pub clean : AreCleanOnPathFrom (setup gate cut) (lost gate cut) drains_one_block
  pub over :
      path_clean_event (path_run (setup gate cut) (lost gate cut) drains_one_block)
      (path_passed (length (lost gate cut).sent) drains_one_block)
      ≡ None
  pub noted :
      notes_in (setup gate cut) (lost gate cut) drains_one_block
      ≡ record { place = places.OldFace; note = gate_notes.BadBundle 1 0 (Six six.Version) }
      ∷ note_from places.OldNode (notes.Sent 1) ∷ []

pub block-drained : (gate : Endpoint) (cut : ℕ) → IsDrained gate cut
unfolding path_run path_step submits begin segments_from last_segment red_pieces green_pieces find
    put least_deadline then_does ticks_gate and_then tick_step ticked ended tick_segments
    tick_remarks untouched arrives_at datagram_step arrives with_receiver evicted_of in_turn
    decides_at judged case_of found_at bundle primary answers_at without notes_in sender_tick
    receiver_answers closed_runs piece_step filled all_octets sender_answers report_step report_of
    report_on claims_below runs_of with_claims with_range acknowledged
block-drained gate cut =
    record { clean = (refl, (refl, (refl, (refl, tt)))); over = refl; noted = refl }

pub block-complete : (gate : Endpoint) (cut : ℕ)
    → IsRunComplete (setup gate cut) 0 sends_no_bundle drains_one_block
block-complete gate cut =
    let ready = block-ready gate cut in
    let drained = block-drained gate cut in
    whole-runs (setup gate cut) 0 sends_no_bundle drains_one_block ready.linked ready.alike
    ready.hopeful ready.room drained.clean drained.over
