-- A note that was made among effects was made among more.

use Rattle.std.proofs.Common.{List}
use Rattle.ltp_segment.specs.declared.session.Note.{Note}
use Rattle.ltp_session.specs.World.{End}
use Rattle.ltp_laws.specs.View.{IsIn}
use Rattle.ltp_drain.specs.Effects.{EndEffects, IsNoted}

pub noted-among : (es fs : List EndEffects) (end : End) (note : Note)
    → ((e : EndEffects) → IsIn e es → IsIn e fs) → IsNoted es end note → IsNoted fs end note
noted-among es fs end note more is =
    record { of = is.of; among = more is.of is.among; by = is.by; noted = is.noted }
