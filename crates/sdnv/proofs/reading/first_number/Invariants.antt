use Rattle.std.proofs.Common.{◌≡◌, ◌≤◌, take}
use Rattle.sdnv.specs.Spelling.{high_count, sum_of}
use Rattle.sdnv.proofs.reading.first_number.Given as goal

abbrev pub invariant-loop-i : goal.invariant-loop-i
invariant-loop-i l = record {
  high : l.i ≤ high_count l.bytes;
  value : l.value ≡ sum_of (take l.i l.bytes);
}
