use Rattle.std.proofs.Common.{◌≡◌, ◌++◌, take}
use Rattle.std.specs.List.{flat_map}
use Rattle.std.specs.String.{string_bytes}
use Rattle.record_run.specs.Record.{entry_line}
use Rattle.record_run.proofs.written_lines.write_entries.Given as goal

abbrev pub invariant-each : goal.invariant-each
invariant-each l = string_bytes l.text ≡ string_bytes l.initial.text ++ flat_map entry_line (take l.entry-index l.entries)
