use Rattle.std.proofs.Common.{◌≡◌, ◌+◌, ◌++◌, ◌<◌, ◌^◌, take}
use Rattle.std.specs.String.{string_bytes}
use Rattle.link_run.specs.WrittenLines.{count_timed, timed_text}
use Rattle.link_run.proofs.TextLemmas.{last_moment}
use Rattle.link_run.proofs.written_lines.write_timed.Given as goal

abbrev pub invariant-each : goal.invariant-each
invariant-each l = record {
  shown : l.shown ≡ last_moment l.moment (take l.at-index l.ats);
  k : l.before + count_timed l.ats < 2 ^ 64 → l.k ≡ l.before + count_timed (take l.at-index l.ats);
  text : l.before + count_timed l.ats < 2 ^ 64 → string_bytes l.text ≡ string_bytes l.initial.text ++ timed_text l.windows l.moment l.before (take l.at-index l.ats);
}
