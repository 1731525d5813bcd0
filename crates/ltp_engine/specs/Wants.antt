-- What the sides of an engine want memory for.

use Rattle.std.specs.Prelude.{ℕ, Option, None, Some}
use Rattle.ltp_segment.specs.Policy.{PolicyValue}
use Rattle.ltp_segment.specs.Values.{PieceValue}
use Rattle.ltp_session.specs.Step.{StepValue, Sends}
use Rattle.ltp_session.specs.Sender.{Sending}
use Rattle.ltp_session.specs.Receiver.{Receiving}
use Rattle.ltp_receiver.specs.Quiet.{IsQuietStep}
use Rattle.ltp_engine.specs.Inbound.{kept_piece}

-- a piece for a session that is kept: more than a quiet step
abbrev pub WantsNext : PolicyValue → PieceValue → ℕ → Option Receiving → Type 0
WantsNext policy piece now None = ⊥
WantsNext policy piece now (Some r) = IsQuietStep (Some r) (kept_piece policy r piece now) → ⊥

-- what a receiving session answers: more than a quiet step
abbrev pub WantsReceived : Option Receiving → Option (StepValue Receiving) → Type 0
WantsReceived kept None = ⊥
WantsReceived kept (Some step) = IsQuietStep kept step → ⊥

-- what a sending session answers: a segment
abbrev pub WantsSent : Option (StepValue Sending) → Type 0
WantsSent None = ⊥
WantsSent (Some step) = Sends step
