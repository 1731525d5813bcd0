-- What is written and what is left to write are all.
use Rattle.std.proofs.Common.{◌≡◌, ◌++◌, drop, length}
use Rattle.std.specs.List.{flat_map}
use Rattle.bundle6.specs.Writing.{blocks_written}
use Rattle.bundle6.proofs.writing.write_blocks.Given as goal

abbrev pub invariant-loop-i : goal.invariant-loop-i
invariant-loop-i l = record {
  counted : length l.rest ≡ length (flat_map (λ block. block.refs) (drop l.i l.blocks));
  written : l.out.items ++ blocks_written (drop l.i l.blocks) l.rest ≡ l.initial.out.items ++ blocks_written l.blocks l.pairs;
}
