-- What a session of the code waits for, as the phase of its definition.

use Rattle.std.specs.Prelude.{ℕ, Bool, false, ◌==◌, List, [], ◌∷◌, None, Some}
use Rattle.ltp_segment.specs.Values.{ContentValue, a_report, a_receiver_cancel}
use Rattle.ltp_session.specs.declared.timer.Timer.{Timer}
use Rattle.ltp_session.specs.Receiver.{ReceivingPhase, receiver_open, receiver_cancelling}
use Rattle.ltp_receiver.specs.declared.phase.Phase.{Phase}
use Rattle.ltp_receiver.specs.declared.phase.Phase.TheVariants as phases

abbrev pub phase_value : Phase → ReceivingPhase
phase_value (phases.Open None) = receiver_open None
phase_value (phases.Open (Some pending)) =
    receiver_open (Some (record { report = pending.report; timer = pending.timer }))
phase_value (phases.Cancelling reason timer) = receiver_cancelling reason timer

-- the pending report has this serial
abbrev pub awaits : ReceivingPhase → ℕ → Bool
awaits (receiver_open None) serial = false
awaits (receiver_open (Some pending)) serial = pending.report.serial == serial
awaits (receiver_cancelling reason timer) serial = false

-- what waits for an answer
abbrev pub awaited : ReceivingPhase → List ContentValue
awaited (receiver_open None) = []
awaited (receiver_open (Some pending)) = a_report pending.report ∷ []
awaited (receiver_cancelling reason timer) = a_receiver_cancel reason ∷ []

-- the phase with its timer set anew
abbrev pub renewed : ReceivingPhase → Timer → ReceivingPhase
renewed (receiver_open None) timer = receiver_open None
renewed (receiver_open (Some pending)) timer =
    receiver_open (Some (record { report = pending.report; timer = timer }))
renewed (receiver_cancelling reason old) timer = receiver_cancelling reason timer
