use Rattle.std.proofs.Common.{arith, refl}
use Rattle.crc_fields.proofs.Chain.{word}
use Rattle.crc_fields.proofs.castagnoli.take_word.Goals as goal

pub returns : goal.returns
returns c = word 0x82F63B78 c.args.register c.from_le_bytes.result c.args.register c.args.word.now c.to_le_bytes.result _ _ _ _ (omega (arith, c.ranges.register.fits))
    c.told-word c.fits-word c.from_le_bytes.ensures c.from_le_bytes.type_inv refl c.to_le_bytes.ensures
    c.entry.ensures c.entry-2.ensures c.entry-3.ensures c.entry-4.ensures
