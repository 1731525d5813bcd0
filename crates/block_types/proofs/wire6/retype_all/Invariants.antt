use Rattle.std.proofs.Common.{◌≡◌}
use Rattle.translate.proofs.MapLemmas.{become}
use Rattle.block_types.specs.Relabelled.{retyped6}
use Rattle.block_types.proofs.wire6.retype_all.Given as goal

abbrev pub invariant-loop-block : goal.invariant-loop-block
invariant-loop-block l = l.blocks ≡ become (retyped6 l.types) l.block-index l.initial.blocks
