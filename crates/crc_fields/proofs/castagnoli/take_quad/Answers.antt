use Rattle.std.proofs.Common.{arith}
use Rattle.crc_fields.proofs.Chain.{quad}
use Rattle.crc_fields.proofs.castagnoli.take_quad.Goals as goal

pub returns : goal.returns
returns c = quad 0x82F63B78 c.args.register c.from_le_bytes.result c.from.result c.args.quad.now c.to_le_bytes.result _ _ _ _ _ _ _ _ _ _ _ _ _ _ _ _ (omega (arith, c.ranges.register.fits))
    c.told-quad c.fits-quad c.from_le_bytes.ensures c.from_le_bytes.type_inv c.from.ensures c.to_le_bytes.ensures
    c.entry.ensures c.entry-2.ensures c.entry-3.ensures c.entry-4.ensures c.entry-5.ensures c.entry-6.ensures c.entry-7.ensures c.entry-8.ensures
    c.entry-9.ensures c.entry-10.ensures c.entry-11.ensures c.entry-12.ensures c.entry-13.ensures c.entry-14.ensures c.entry-15.ensures c.entry-16.ensures
