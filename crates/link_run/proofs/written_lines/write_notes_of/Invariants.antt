use Rattle.std.proofs.Common.{◌≡◌, ◌++◌, take}
use Rattle.std.specs.List.{flat_map}
use Rattle.std.specs.String.{string_bytes}
use Rattle.std.specs.Prelude.{Some}
use Rattle.replay_script.specs.NoteLines.{note_line}
use Rattle.link_run.specs.WrittenLines.{site_of}
use Rattle.link_run.proofs.written_lines.write_notes_of.Given as goal

abbrev pub invariant-each : goal.invariant-each
invariant-each l = string_bytes l.text ≡ string_bytes l.initial.text ++ flat_map (note_line (Some (site_of l.end))) (take l.note-index l.notes)
