-- What a session of the code waits for.

use Rattle.std.specs.Prelude.{◌≡◌, ℕ}
use Rattle.ltp_session.specs.declared.timer.Timer.{Timer}
use Rattle.ltp_sender.specs.declared.segments.Checkpoint.{Checkpoint}
use Rattle.ltp_sender.specs.declared.kept.Phase.{Phase}
use Rattle.ltp_sender.specs.declared.kept.Phase.TheVariants as phases
use Rattle.ltp_sender.specs.Segments.{IsCheckpoint}

-- an open session's checkpoint can be sent
abbrev pub IsPhase : ℕ → Phase → Type 0
IsPhase red phase = (c : Checkpoint) (timer : Timer) → phase ≡ phases.Open c timer
    → IsCheckpoint red c
