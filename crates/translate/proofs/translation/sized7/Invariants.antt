use Rattle.std.proofs.Common.{take}
use Rattle.std.specs.List.{All}
use Rattle.translate.specs.Legal.{IsSized7}
use Rattle.translate.proofs.translation.sized7.Given as goal

abbrev pub invariant-telling : goal.invariant-telling
invariant-telling l = All IsSized7 (take l.block-index l.blocks)
