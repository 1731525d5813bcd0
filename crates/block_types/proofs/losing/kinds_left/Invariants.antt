use Rattle.std.proofs.Common.{◌≡◌, take}
use Rattle.block_types.specs.Bare.{kinds_left}
use Rattle.block_types.proofs.losing.kinds_left.Given as goal

abbrev pub invariant-leaving : goal.invariant-leaving
invariant-leaving l = l.kinds.items ≡ kinds_left (take l.ext-index l.exts)
