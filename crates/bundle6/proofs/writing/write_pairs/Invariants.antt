use Rattle.std.proofs.Common.{◌≡◌, ◌++◌, take}
use Rattle.bundle6.specs.Writing.{pairs_octets}
use Rattle.bundle6.proofs.writing.write_pairs.Given as goal

abbrev pub invariant-loop-pair : goal.invariant-loop-pair
invariant-loop-pair l = l.out.items ≡ l.initial.out.items ++ pairs_octets (take l.pair-index l.pairs)
