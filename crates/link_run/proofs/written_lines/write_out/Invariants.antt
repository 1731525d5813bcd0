use Rattle.std.proofs.Common.{◌≡◌, ◌+◌, ◌++◌, ◌<◌, ◌^◌, length, take}
use Rattle.std.specs.String.{string_bytes}
use Rattle.link_run.specs.WrittenLines.{out_lines}
use Rattle.link_run.proofs.written_lines.write_out.Given as goal

abbrev pub invariant-each : goal.invariant-each
invariant-each l = record {
  k : l.before + length l.out < 2 ^ 64 → l.k ≡ l.before + l.datagram-index;
  text : l.before + length l.out < 2 ^ 64 → string_bytes l.text ≡ string_bytes l.initial.text ++ out_lines l.before l.end (take l.datagram-index l.out);
}
