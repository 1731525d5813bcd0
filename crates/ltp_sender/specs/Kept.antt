-- What the code keeps of a session, as the state of its definition.

use Rattle.std.specs.Prelude.{◌≡◌, ℕ, Bool, List, [], length, take, Option, None, Some}
use Rattle.std.specs.Option.{option_map}
use Rattle.ltp_segment.specs.declared.session.Step.{Step}
use Rattle.ltp_segment.specs.Policy.{PolicyValue}
use Rattle.ltp_segment.specs.Values.{ContentValue, a_piece, a_sender_cancel}
use Rattle.ltp_session.specs.declared.name.SessionName.{SessionName}
use Rattle.ltp_session.specs.declared.timer.Timer.{Timer}
use Rattle.ltp_session.specs.Step.{StepValue, after, ends, sending, sent_too_often}
use Rattle.ltp_session.specs.Sender.{SendingPhase, sender_open, sender_cancelling, Sending, gives_up}
use Rattle.ltp_session.specs.Views.{answer_of}
use Rattle.ltp_sender.specs.declared.segments.Checkpoint.{Checkpoint}
use Rattle.ltp_sender.specs.declared.kept.Phase.{Phase}
use Rattle.ltp_sender.specs.declared.kept.Phase.TheVariants as phases
use Rattle.ltp_sender.specs.declared.kept.Kept.{Kept}
use Rattle.ltp_sender.specs.Segments.{checkpoint_value}

abbrev pub phase_value : ℕ → List ℕ → Phase → SendingPhase
phase_value size part (phases.Open checkpoint timer) =
    sender_open (checkpoint_value size part checkpoint) timer
phase_value size part (phases.Cancelling reason timer) = sender_cancelling reason timer

abbrev pub sending_of : Kept → Sending
sending_of k = record {
  block = k.block;
  red = k.red;
  claimed = k.claimed;
  phase = phase_value (length k.block) (take k.red k.block) k.phase;
}

-- what is kept of a session that begins with this checkpoint
abbrev pub opened_by : List ℕ → ℕ → List Bool → Timer → Option Checkpoint → Option Sending
opened_by block red claimed timer None = None
opened_by block red claimed timer (Some c) = Some (record {
  block = block;
  red = red;
  claimed = claimed;
  phase = sender_open (checkpoint_value (length block) (take red block) c) timer;
})

-- a session did a step of its definition, and answers it
pub record Did (name : SessionName) (s : Sending) (step : StepValue Sending)
    (r : Option Kept × Step) : Type 0 where
  pub kept : option_map sending_of r.0 ≡ after step.next (Some s)
  pub answer : r.1 ≡ answer_of name step

-- what a session waits for an answer to
abbrev pub awaited : SendingPhase → ContentValue
awaited (sender_open checkpoint timer) = a_piece checkpoint
awaited (sender_cancelling reason timer) = a_sender_cancel reason

-- the session with its timer set anew
abbrev pub renewed : SendingPhase → Timer → SendingPhase
renewed (sender_open checkpoint old) timer = sender_open checkpoint timer
renewed (sender_cancelling reason old) timer = sender_cancelling reason timer

abbrev pub with_timer : Sending → Timer → Sending
with_timer s timer = record s { phase = renewed s.phase timer }

-- what it waits for was sent too often
abbrev pub exhausted : PolicyValue → Sending → SendingPhase → ℕ → StepValue Sending
exhausted policy s (sender_open checkpoint timer) now = gives_up policy s sent_too_often now []
exhausted policy s (sender_cancelling reason timer) now = sending ends []
