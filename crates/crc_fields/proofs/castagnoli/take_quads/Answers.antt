use Rattle.std.proofs.Common.{◌∙◌}
use Rattle.crc_fields.proofs.Chain.{words-step}
use Rattle.crc_fields.proofs.castagnoli.take_quads.Goals as goal

pub quads-preserved : goal.quads-preserved
quads-preserved c =
    let parts = c.in-Some.ensures.cases in
    words-step 0x82F63B78 16 c.quads.register c.take_quad-register.result c.quads.rest.now c.in-Some.quad.now c.in-Some.after.now parts.0 parts.1 c.take_quad-register.ensures
    ∙ c.quads.invariant
