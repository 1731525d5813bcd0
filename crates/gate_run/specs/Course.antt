-- How a run goes on, half after half, where it is known what the outside will give.

use Rattle.std.specs.Prelude.{ℕ, zero, suc, Bool, ◌&&◌, List, [], ◌∷◌, length, drop, Option}
use Rattle.std.specs.Prelude.{if◌then◌else◌}
use Rattle.std.specs.Option.{is_some}
use Rattle.gate_cases.specs.declared.face.Face.{Face}
use Rattle.gate_cases.specs.declared.face.Face.TheVariants.{Old, New}
use Rattle.gate_config.specs.declared.file.GateFile.{GateFile}
use Rattle.gate_edges.specs.Ahead.{Ahead, LinkAhead, past_show, reading_next}
use Rattle.journal_file.specs.Values.{KeptValue}
use Rattle.peer_half.specs.Standing.{Standing, wall_of}
use Rattle.peer_half.specs.Acts.{Act, Acted}
use Rattle.peer_half.specs.Parts.{commits, sends, ends_sending, is_due}
use Rattle.peer_half.specs.Half.{Came, hears, half}
use Rattle.peer_half.specs.Run.{recovers, run}
use Rattle.gate_run.specs.Comes.{comes, past_polls}

-- what the outside will give from a moment of a run on, and how the run stands
pub record Point : Type 0 where
  pub ahead : Ahead
  pub standing : Standing

-- ---- the stages of a half

-- what came is taken
abbrev pub heard : Face → Point → Standing
heard face p = hears face (comes face p.ahead) p.standing

-- its records were committed
abbrev pub recorded : Face → Point → Acted
recorded face p = commits (heard face p)

-- the old face sent, and then the new one
abbrev pub old_sent : Face → Point → Acted
old_sent face p = sends Old (comes face p.ahead).old_failing (recorded face p).standing

abbrev pub new_sent : Face → Point → Acted
new_sent face p = sends New (comes face p.ahead).new_failing (old_sent face p).standing

abbrev pub ended : Face → Point → Standing
ended face p = ends_sending (new_sent face p).standing

-- ---- the outside after a half

-- so many datagrams were sent, or lost
abbrev pub past_sends : ℕ → LinkAhead → LinkAhead
past_sends n link = record link { failing = drop n link.failing }

-- the metrics were shown, or not
abbrev pub past_shows : (shows : Bool) → Ahead → Ahead
past_shows shows ahead = if shows then past_show ahead else ahead

-- at both faces datagrams were sent
abbrev pub past_sendings : (old new : ℕ) → Ahead → Ahead
past_sendings old new ahead = record ahead {
  old = past_sends old ahead.old;
  new = past_sends new ahead.new;
}

-- whether the metrics are shown in a half
abbrev pub shows_in : (board : Bool) → Standing → Bool
shows_in board s = board && is_due s.shown (wall_of s)

unfoldable pub ahead_past_half : (board : Bool) → Face → Point → Ahead
ahead_past_half board face p =
    past_shows (shows_in board (ended face p))
    (past_sendings (length (old_sent face p).acts) (length (new_sent face p).acts)
    (past_polls face p.ahead))

abbrev pub past_half : (board : Bool) → Face → Point → Point
past_half board face p = record {
  ahead = ahead_past_half board face p;
  standing = (half board face (comes face p.ahead) p.standing).standing;
}

-- ---- turns

-- a half of the old face, and one of the new face
abbrev pub past_turn : (board : Bool) → Point → Point
past_turn board p = past_half board New (past_half board Old p)

-- what comes to the halves of so many turns
unfoldable pub come : (board : Bool) → (turns : ℕ) → Point → List Came
come board zero p = []
come board (suc n) p =
    comes Old p.ahead ∷ comes New (past_half board Old p).ahead ∷ come board n (past_turn board p)

-- ---- a run

-- there is a board if and only if the file says where the metrics are put
abbrev pub has_board : GateFile → Bool
has_board file = is_some (file.gateway).metrics

-- a run begins with the first reading of the wall clock, by its file and by what earlier runs kept, where
-- a journal is kept
abbrev pub begins : GateFile → Option KeptValue → Ahead → Point
begins file kept ahead = record {
  ahead = ahead;
  standing = (recovers file kept (reading_next ahead).wall).standing;
}

-- the acts of so many turns
abbrev pub run_over : GateFile → Option KeptValue → (turns : ℕ) → Ahead → List Act
run_over file kept turns ahead =
    run file kept (has_board file) (come (has_board file) turns (begins file kept ahead))
