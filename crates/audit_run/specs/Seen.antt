-- A line that was judged, as its entry.

use Rattle.std.specs.Prelude.{ℕ, List, Option, None, Some, Result, Ok, Err}
use Rattle.std.specs.Borrow.{Bor}
use Rattle.ltp_audit.specs.declared.entry.Entry.{Entry}
use Rattle.replay_script.specs.declared.fault.LineFault.{LineFault}
use Rattle.audit_run.specs.declared.entry_line.Said.{Said}
use Rattle.audit_run.specs.EntryLine.{entry_of_hex}

abbrev pub seen : Result Said LineFault → Result Entry LineFault
seen (Ok said) = entry_of_hex said.out said.hex.now
seen (Err fault) = Err fault

abbrev pub pair_seen : Option (Bor (List ℕ) × Bor (List ℕ)) → Option (List ℕ × List ℕ)
pair_seen None = None
pair_seen (Some words) = Some (words.0.now, words.1.now)
