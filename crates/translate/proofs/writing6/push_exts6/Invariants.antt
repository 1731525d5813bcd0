use Rattle.std.proofs.Common.{◌≡◌, ◌++◌, take, map}
use Rattle.translate.specs.View6.{block6_of}
use Rattle.translate.proofs.writing6.push_exts6.Given as goal

abbrev pub invariant-loop-ext : goal.invariant-loop-ext
invariant-loop-ext l = l.blocks.items ≡ l.initial.blocks.items ++ map block6_of (take l.ext-index l.exts)
