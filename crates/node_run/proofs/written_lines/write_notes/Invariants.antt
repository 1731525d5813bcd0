use Rattle.std.proofs.Common.{◌≡◌, ◌++◌, None, take}
use Rattle.std.specs.List.{flat_map}
use Rattle.std.specs.String.{string_bytes}
use Rattle.replay_script.specs.NoteLines.{note_line}
use Rattle.node_run.proofs.written_lines.write_notes.Given as goal

abbrev pub invariant-each : goal.invariant-each
invariant-each l = string_bytes l.text ≡ string_bytes l.initial.text ++ flat_map (note_line None) (take l.note-index l.note-items)
