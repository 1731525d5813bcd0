-- What the code tells, with notes of sessions that were closed.

use Rattle.std.specs.Prelude.{ℕ, List, ◌++◌}
use Rattle.ltp_engine.specs.declared.effects.Effects.{Effects}
use Rattle.peer_sessions.specs.Sessions.{evictions}

-- sessions were closed after a step
abbrev pub then_evicted : Effects → List ℕ → Effects
then_evicted e numbers = record e { notes = e.notes ++ evictions numbers }
