use Rattle.std.proofs.Common.{◌≡◌, ◌+◌, ◌++◌, ◌<◌, ◌^◌, take}
use Rattle.std.specs.String.{string_bytes}
use Rattle.link_run.specs.WrittenLines.{count_steps, steps_text}
use Rattle.link_run.proofs.written_lines.write_steps.Given as goal

abbrev pub invariant-each : goal.invariant-each
invariant-each l = record {
  k : l.before + count_steps l.steps < 2 ^ 64 → l.k ≡ l.before + count_steps (take l.step-index l.steps);
  text : l.before + count_steps l.steps < 2 ^ 64 → string_bytes l.text ≡ string_bytes l.initial.text ++ steps_text l.before (take l.step-index l.steps);
}
