use Rattle.std.proofs.Common.{◌≡◌, ◌≤◌, length, take}
use Rattle.translate.specs.Reading7.{exts_in7}
use Rattle.translate.proofs.fitting.count7.Given as goal

abbrev pub invariant-counting : goal.invariant-counting
invariant-counting l = record {
  count : l.count ≡ length (exts_in7 (take l.block-index l.blocks));
  bound : l.count ≤ l.block-index;
}
