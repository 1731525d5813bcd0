-- How a run begins, by its file, by what earlier runs kept, and by the first reading of the wall clock.

use Rattle.std.specs.Prelude.{ℕ, Option}
use Rattle.gate_config.specs.declared.file.GateFile.{GateFile}
use Rattle.journal_file.specs.Values.{KeptValue}
use Rattle.peer_gateway.specs.Answers.{Answered, answer_of}
use Rattle.peer_gateway.specs.Ties.{starts_effects}
use Rattle.peer_half.specs.Journals.{marked_each}
use Rattle.peer_half.specs.Standing.{Standing, starts_empty, with_faces}
use Rattle.peer_half.specs.Steps.{putting_all}

-- A session that earlier runs had claimed in part isn't handed up, so that no two runs claim parts of one
-- block; and its peer is told by a cancel of reason 4, SYS_CNCLD: the system ends the session (RFC 5326,
-- section 3.2.4). Those of the old face first.
abbrev pub cancels_in : Standing → Answered
cancels_in s = answer_of (starts_effects s.setup (marked_each s.journal))

-- the cancels are put into the outboxes, or dropped
abbrev pub cancelling : Standing → Standing
cancelling s =
    with_faces (putting_all (cancels_in s).puts (cancels_in s).out s.faces) s

-- before the first half
unfoldable pub starts_at : GateFile → Option KeptValue → ℕ → Standing
starts_at file kept wall = cancelling (starts_empty file kept wall)
