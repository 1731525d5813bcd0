use Rattle.std.proofs.Common.{◌≡◌, [], length, take}
use Rattle.cells.specs.Laid.{laid, StandsAfter}
use Rattle.cells.proofs.LogLemmas.{Front}
use Rattle.cells.proofs.log.lay_all.Given as goal

abbrev pub invariant-laying : goal.invariant-laying
invariant-laying l = record {
  front : Front l.ranges l.octets l.at l.left;
  size : length l.buffer ≡ length l.initial.buffer;
  stands : StandsAfter (laid [] (take l.at l.ranges) l.left) l.buffer (laid [] l.ranges l.octets);
}

abbrev pub decreases-laying : goal.decreases-laying
decreases-laying l = l.at
