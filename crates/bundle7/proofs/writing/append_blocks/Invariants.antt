use Rattle.std.proofs.Common.{◌≡◌, ◌++◌, take}
use Rattle.bundle7.specs.Spelling.{blocks_octets}
use Rattle.bundle7.proofs.writing.append_blocks.Given as goal

abbrev pub invariant-each : goal.invariant-each
invariant-each l = l.out.items ≡ l.initial.out.items ++ blocks_octets (take l.block-index l.blocks)
