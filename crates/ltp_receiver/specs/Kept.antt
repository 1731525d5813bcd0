-- What the code keeps of a session, as the state of its definition.

use Rattle.std.specs.Prelude.{◌≡◌, ℕ, ◌+◌, Bool, false, List, [], ◌∷◌, Option, None, Some}
use Rattle.std.specs.Prelude.{if◌then◌else◌}
use Rattle.std.specs.Option.{option_map}
use Rattle.ltp_segment.specs.declared.session.Step.{Step}
use Rattle.ltp_segment.specs.Policy.{PolicyValue}
use Rattle.ltp_segment.specs.Values.{ReportValue, a_report}
use Rattle.ltp_session.specs.declared.name.SessionName.{SessionName}
use Rattle.ltp_session.specs.declared.timer.Timer.{Timer}
use Rattle.ltp_session.specs.Timer.{first_timer}
use Rattle.ltp_session.specs.Claims.{is_whole_claim}
use Rattle.ltp_session.specs.Step.{StepValue, after, keeps, ends, sending, sent_too_often}
use Rattle.ltp_session.specs.Receiver.{Receiving, ReceivingPhase, receiver_open}
use Rattle.ltp_session.specs.Receiver.{receiver_cancelling, rejects}
use Rattle.ltp_session.specs.Views.{answer_of}
use Rattle.ltp_receiver.specs.Phases.{phase_value, renewed}
use Rattle.ltp_receiver.specs.declared.kept.Kept.{Kept}

abbrev pub receiving_of : Kept → Receiving
receiving_of k = record {
  cells = k.cells;
  length = k.length;
  green = k.green;
  handed_up = k.handed_up;
  serial = k.serial;
  phase = phase_value k.phase;
}

-- a session did a step of its definition, and answers it
pub record Did (name : SessionName) (r : Receiving) (step : StepValue Receiving)
    (result : Option Kept × Step) : Type 0 where
  pub kept : option_map receiving_of result.0 ≡ after step.next (Some r)
  pub answer : result.1 ≡ answer_of name step

-- a report is made and is pending, and the red part is handed up where it is whole
abbrev pub reported :
    PolicyValue → Receiving → ReportValue → ℕ → Option (List ℕ) → StepValue Receiving
reported policy r report now up = record {
  next = keeps (record r {
    serial = r.serial + 1;
    phase = receiver_open (Some (record { report = report; timer = first_timer policy now }));
  });
  out = a_report report ∷ [];
  up = up;
  green = None;
  note = None;
}

-- the pending report claims the whole red part
abbrev pub is_claimed : Option ℕ → ReceivingPhase → Bool
is_claimed length (receiver_open None) = false
is_claimed length (receiver_open (Some pending)) = is_whole_claim length pending.report.claims
is_claimed length (receiver_cancelling reason timer) = false

-- the session with its timer set anew
abbrev pub with_timer : Receiving → Timer → Receiving
with_timer r timer = record r { phase = renewed r.phase timer }

-- what it waits for was sent too often
abbrev pub exhausted : PolicyValue → Receiving → ReceivingPhase → ℕ → StepValue Receiving
exhausted policy r (receiver_open pending) now =
    if r.handed_up then sending ends [] else rejects policy r sent_too_often now None
exhausted policy r (receiver_cancelling reason timer) now = sending ends []
