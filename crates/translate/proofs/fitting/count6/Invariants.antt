use Rattle.std.proofs.Common.{◌≡◌, ◌≤◌, length, take}
use Rattle.translate.specs.Reading6.{exts_in6}
use Rattle.translate.proofs.fitting.count6.Given as goal

abbrev pub invariant-counting : goal.invariant-counting
invariant-counting l = record {
  count : l.count ≡ length (exts_in6 (take l.block-index l.blocks));
  bound : l.count ≤ l.block-index;
}
