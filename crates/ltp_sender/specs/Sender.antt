-- What a sender shows of its session.

use Rattle.std.specs.Prelude.{ℕ, Bool, true, false, not, List, [], Option, None, Some}
use Rattle.ltp_segment.specs.Policy.{PolicyValue}
use Rattle.ltp_session.specs.declared.name.SessionName.{SessionName}
use Rattle.ltp_session.specs.Step.{StepValue, after}
use Rattle.ltp_session.specs.Sender.{SendingPhase, sender_open, sender_cancelling, Sending, sender_deadline}
use Rattle.ltp_session.specs.Views.{SessionValue}

-- a session that began with this step
abbrev pub begun_with : SessionName → PolicyValue → StepValue Sending → SessionValue Sending
begun_with name policy step = record {
  spent = false;
  name = name;
  policy = policy;
  kept = after step.next None;
}

-- when the timer is due; once the session is over there is none
abbrev pub deadline_of : Option Sending → Option ℕ
deadline_of None = None
deadline_of (Some s) = sender_deadline s

-- which octets of the red part were claimed; once the session is over there are none
abbrev pub claimed_of : Option Sending → List Bool
claimed_of None = []
claimed_of (Some s) = s.claimed

abbrev pub is_cancelling : SendingPhase → Bool
is_cancelling (sender_open checkpoint timer) = false
is_cancelling (sender_cancelling reason timer) = true

abbrev pub is_kept_cancelling : Option Sending → Bool
is_kept_cancelling None = false
is_kept_cancelling (Some s) = is_cancelling s.phase

-- the session is neither over nor cancelling
abbrev pub is_kept_open : Option Sending → Bool
is_kept_open None = false
is_kept_open (Some s) = not (is_cancelling s.phase)
