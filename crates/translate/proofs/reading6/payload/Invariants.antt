use Rattle.std.proofs.Common.{◌≡◌, drop}
use Rattle.translate.specs.Reading6.{payload_in}
use Rattle.translate.proofs.reading6.payload.Given as goal

abbrev pub invariant-loop-block : goal.invariant-loop-block
invariant-loop-block l = payload_in (drop l.block-index l.blocks) ≡ payload_in l.blocks
