use Rattle.std.proofs.Common.{sym, arith}
use Rattle.crc_fields.proofs.Chain.{take_text-none, octets-step}
use Rattle.crc_fields.proofs.castagnoli.take_octets.Goals as goal

pub octets-init : goal.octets-init
octets-init c = sym (take_text-none 0x82F63B78 c.args.start)

pub octets-preserved : goal.octets-preserved
octets-preserved c =
    octets-step 0x82F63B78 c.args.start c.octets.register c.take_octet-register.result c.octets.octet-index c.args.bytes.now (λ i. omega (arith, c.type_inv.bytes i))
    c.octets-test.true c.octets.invariant c.take_octet-register.ensures
