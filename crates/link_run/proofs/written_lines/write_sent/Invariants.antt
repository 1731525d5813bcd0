use Rattle.std.proofs.Common.{◌≡◌, ◌+◌, ◌++◌, ◌<◌, ◌^◌, take}
use Rattle.std.specs.String.{string_bytes}
use Rattle.link_run.specs.WrittenLines.{count_sent, sent_lines}
use Rattle.link_run.proofs.written_lines.write_sent.Given as goal

abbrev pub invariant-each : goal.invariant-each
invariant-each l = record {
  k : l.before + count_sent l.tolds < 2 ^ 64 → l.k ≡ l.before + count_sent (take l.told-index l.tolds);
  text : l.before + count_sent l.tolds < 2 ^ 64 → string_bytes l.text ≡ string_bytes l.initial.text ++ sent_lines l.before (take l.told-index l.tolds);
}
