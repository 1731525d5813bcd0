use Rattle.std.proofs.Common.{◌≡◌, ◌+◌, take}
use Rattle.link_run.specs.Shows.{capped}
use Rattle.link_run.specs.WrittenLines.{count_sent}
use Rattle.link_run.proofs.counting.count_sent.Given as goal

abbrev pub invariant-each : goal.invariant-each
invariant-each l = l.sum ≡ capped (l.count + count_sent (take l.told-index l.tolds))
