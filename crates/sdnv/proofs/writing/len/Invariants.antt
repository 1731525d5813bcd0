use Rattle.std.proofs.Common.{◌≡◌, ◌+◌, ◌-◌, ◌^◌, ◌<◌, ◌≤◌, length}
use Rattle.sdnv.specs.Shortest.{spelling, leading}
use Rattle.sdnv.proofs.writing.len.Given as goal

abbrev pub invariant-counting : goal.invariant-counting
invariant-counting l = record {
  few : l.octets ≤ 10;
  room : l.rest < 128 ^ (10 - l.octets);
  counted : length (spelling l.value) ≡ length (leading (10 - l.octets) l.rest) + l.octets;
}

abbrev pub decreases-counting : goal.decreases-counting
decreases-counting l = l.rest
