use Rattle.std.proofs.Common.{◌≡◌, ◌++◌, take}
use Rattle.translate.specs.Reading6.{exts_in6}
use Rattle.translate.proofs.reading6.push_exts6.Given as goal

abbrev pub invariant-loop-block : goal.invariant-loop-block
invariant-loop-block l = l.exts.items ≡ l.initial.exts.items ++ exts_in6 (take l.block-index l.blocks)
