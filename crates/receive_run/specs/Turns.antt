-- What the code does about a line.
use Rattle.std.specs.Prelude.{◌≡◌, ◌≤◌, List}
use Rattle.edge_traits.specs.declared.status.Status.TheVariants as statuses
use Rattle.command_frame.specs.Lines.{Turn, passes, ends_run}
use Rattle.receive_run.specs.declared.table.Sessions.{Sessions}
use Rattle.receive_run.specs.KeptSessions.{Kept}
use Rattle.receive_run.specs.Table.{Shows}

-- the table stands for the list of sessions, and no more of them are unfinished than may be
abbrev pub ShowsFew : Sessions → List Kept → Type 0
ShowsFew sessions kept = Shows sessions kept × (sessions.unfinished ≤ 64)

-- a line that passes a limit is answered without memory
abbrev pub WantsMemory : Turn (List Kept) → Type 0
WantsMemory (passes text kept) = Unit {0}
WantsMemory (ends_run text status) = status ≡ statuses.Refused
