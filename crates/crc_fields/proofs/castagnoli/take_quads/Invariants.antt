use Rattle.std.proofs.Common.{◌≡◌, length}
use Rattle.crc_fields.specs.Crc.{take_text}
use Rattle.crc_fields.proofs.castagnoli.take_quads.Given as goal

abbrev pub invariant-quads : goal.invariant-quads
invariant-quads l = take_text 0x82F63B78 l.register l.rest ≡ take_text 0x82F63B78 l.start l.bytes

abbrev pub decreases-quads : goal.decreases-quads
decreases-quads l = length l.rest
