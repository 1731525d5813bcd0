use Rattle.std.proofs.Common.{◌≡◌, ◌<◌, ◌^◌, drop}
use Rattle.make_run.specs.Making.{sum_after}
use Rattle.make_run.proofs.summing.sum_after.Given as goal

abbrev pub invariant-each : goal.invariant-each
invariant-each l = record {
  fits : l.sum < 2 ^ 32;
  left : sum_after l.sum (drop l.octet-index l.octets) ≡ sum_after l.before l.octets;
}
