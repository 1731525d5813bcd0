use Rattle.std.proofs.Common.{◌≡◌, take}
use Rattle.bundle_meaning.proofs.blocks.Exts.copy.Given as goal

abbrev pub invariant-loop-ext : goal.invariant-loop-ext
invariant-loop-ext l = l.items.items ≡ take l.ext-index l.exts
