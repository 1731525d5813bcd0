-- The lines of a half, and the counters.

use Rattle.std.specs.Prelude.{ℕ, List, [], ◌∷◌, ◌++◌}
use Rattle.gate_cases.specs.declared.face.Face.{Face}
use Rattle.gate_metrics.specs.declared.counters.Counted.{Counted}
use Rattle.gate_metrics.specs.declared.counters.Counters.{Counters}
use Rattle.gate_metrics.specs.Counting.{counted_at}
use Rattle.gate_log.specs.declared.event.Event.{Event}
use Rattle.gate_log.specs.Lines.{line_of}
use Rattle.gate_events.specs.Counts.{event_counted}

-- a log: the moment of its lines, the lines that are to be written, and the counters
pub record LogValue : Type 0 where
  pub at : ℕ
  pub text : List ℕ
  pub counters : Counters

-- a log of which no line is to be written, at a moment
abbrev pub started_at : ℕ → LogValue → LogValue
started_at at log = record { at = at; text = []; counters = log.counters }

-- something is counted that no line tells
abbrev pub with_counted : Face → Counted → LogValue → LogValue
with_counted face what log = record log { counters = counted_at face what log.counters }

-- an event is said, and counted
abbrev pub after_saying : Event → LogValue → LogValue
after_saying event log = record {
  at = log.at;
  text = log.text ++ line_of log.at event;
  counters = event_counted event log.counters;
}

unfoldable pub after_saying_all : List Event → LogValue → LogValue
after_saying_all [] log = log
after_saying_all (event ∷ more) log = after_saying_all more (after_saying event log)
