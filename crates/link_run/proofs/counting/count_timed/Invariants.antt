use Rattle.std.proofs.Common.{◌≡◌, ◌+◌, take}
use Rattle.link_run.specs.Shows.{capped}
use Rattle.link_run.specs.WrittenLines.{count_timed}
use Rattle.link_run.proofs.counting.count_timed.Given as goal

abbrev pub invariant-each : goal.invariant-each
invariant-each l = l.sum ≡ capped (l.count + count_timed (take l.at-index l.ats))
