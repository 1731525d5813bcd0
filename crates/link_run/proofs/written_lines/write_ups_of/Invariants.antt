use Rattle.std.proofs.Common.{◌≡◌, ◌++◌, take}
use Rattle.std.specs.List.{flat_map}
use Rattle.std.specs.String.{string_bytes}
use Rattle.link_run.specs.WrittenLines.{up_line}
use Rattle.link_run.proofs.written_lines.write_ups_of.Given as goal

abbrev pub invariant-each : goal.invariant-each
invariant-each l = string_bytes l.text ≡ string_bytes l.initial.text ++ flat_map (up_line l.end) (take l.up-index l.ups)
