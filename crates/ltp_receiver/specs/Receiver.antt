-- What a receiver shows of its session.

use Rattle.std.specs.Prelude.{◌≡◌, ℕ, Bool, false, List, [], Option, None, Some}
use Rattle.ltp_segment.specs.Policy.{PolicyValue}
use Rattle.ltp_segment.specs.Values.{PieceValue}
use Rattle.ltp_session.specs.declared.name.SessionName.{SessionName}
use Rattle.ltp_session.specs.Step.{StepValue, stays, sending}
use Rattle.ltp_session.specs.Receiver.{Receiving, fresh, is_cancelling, piece_step}
use Rattle.ltp_session.specs.Receiver.{receiver_deadline}
use Rattle.ltp_session.specs.Views.{SessionValue}

-- a session of which nothing came
abbrev pub new_session : SessionName → PolicyValue → SessionValue Receiving
new_session name policy = record {
  spent = false;
  name = name;
  policy = policy;
  kept = Some (fresh name.number);
}

-- the session is neither over nor cancelling
abbrev pub IsOpen : Option Receiving → Type 0
IsOpen None = ⊥
IsOpen (Some r) = is_cancelling r.phase ≡ false

-- a piece comes; once the session is over nothing happens
abbrev pub on_open_piece : PolicyValue → Option Receiving → PieceValue → ℕ → StepValue Receiving
on_open_piece policy None piece now = sending stays []
on_open_piece policy (Some r) piece now = piece_step policy r piece now

abbrev pub is_kept_cancelling : Option Receiving → Bool
is_kept_cancelling None = false
is_kept_cancelling (Some r) = is_cancelling r.phase

-- the session isn't over, and its red part was handed up
abbrev pub is_kept_handed_up : Option Receiving → Bool
is_kept_handed_up None = false
is_kept_handed_up (Some r) = r.handed_up

-- when the timer is due, where one runs
abbrev pub deadline_of : Option Receiving → Option ℕ
deadline_of None = None
deadline_of (Some r) = receiver_deadline r

-- the octets that came; once the session is over there are none
abbrev pub cells_of : Option Receiving → List (Option ℕ)
cells_of None = []
cells_of (Some r) = r.cells
