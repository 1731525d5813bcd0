use Rattle.std.proofs.Common.{◌≡◌, ◌+◌, take}
use Rattle.link_run.specs.Shows.{capped}
use Rattle.link_run.specs.WrittenLines.{count_steps}
use Rattle.link_run.proofs.counting.count_steps.Given as goal

abbrev pub invariant-each : goal.invariant-each
invariant-each l = l.sum ≡ capped (l.count + count_steps (take l.step-index l.steps))
