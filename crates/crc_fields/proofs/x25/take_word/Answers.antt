use Rattle.std.proofs.Common.{arith}
use Rattle.crc_fields.proofs.Chain.{word}
use Rattle.crc_fields.proofs.x25.take_word.Goals as goal

pub returns : goal.returns
returns c = word 0x8408 c.args.register c.from_le_bytes.result c.from.result c.args.word.now c.to_le_bytes.result _ _ _ _ (omega (arith, c.ranges.register.fits))
    c.told-word c.fits-word c.from_le_bytes.ensures c.from_le_bytes.type_inv c.from.ensures c.to_le_bytes.ensures
    c.entry.ensures c.entry-2.ensures c.entry-3.ensures c.entry-4.ensures
