use Rattle.std.proofs.Common.{◌≡◌, ◌++◌, take}
use Rattle.translate.specs.Reading7.{exts_in7}
use Rattle.translate.proofs.reading7.push_exts7.Given as goal

abbrev pub invariant-loop-block : goal.invariant-loop-block
invariant-loop-block l = l.exts.items ≡ l.initial.exts.items ++ exts_in7 (take l.block-index l.blocks)
