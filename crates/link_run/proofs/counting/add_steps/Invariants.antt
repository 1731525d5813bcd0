use Rattle.std.proofs.Common.{◌≡◌, ◌+◌, take}
use Rattle.link_run.specs.Shows.{capped}
use Rattle.link_run.specs.WrittenLines.{octets_steps}
use Rattle.link_run.proofs.counting.add_steps.Given as goal

abbrev pub invariant-each : goal.invariant-each
invariant-each l = l.sum ≡ capped (l.octets + octets_steps (take l.step-index l.steps))
