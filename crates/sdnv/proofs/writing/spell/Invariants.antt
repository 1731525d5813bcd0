use Rattle.std.proofs.Common.{◌≡◌, ◌^◌, ◌<◌, ◌++◌, length, drop}
use Rattle.sdnv.specs.Shortest.{spelling, leading}
use Rattle.sdnv.proofs.writing.spell.Given as goal

abbrev pub invariant-filling : goal.invariant-filling
invariant-filling l = record {
  within : l.at < 10;
  long : length l.octets ≡ 10;
  room : l.rest < 128 ^ l.at;
  spelled : spelling l.value ≡ leading l.at l.rest ++ drop l.at l.octets;
}

abbrev pub decreases-filling : goal.decreases-filling
decreases-filling l = l.rest
