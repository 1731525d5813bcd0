use Rattle.std.proofs.Common.{◌≡◌, ◌++◌, take}
use Rattle.std.specs.List.{flat_map}
use Rattle.std.specs.String.{string_bytes}
use Rattle.serve_run.specs.WrittenLines.{face_note_line}
use Rattle.serve_run.proofs.written_lines.write_notes.Given as goal

abbrev pub invariant-each : goal.invariant-each
invariant-each l = string_bytes l.text ≡ string_bytes l.initial.text ++ flat_map face_note_line (take l.note-index l.notes)
