use Rattle.std.proofs.Common.{ℕ, ap, ◌∙◌, ◌/◌, bit_xor}
use Rattle.crc_fields.proofs.Chain.{octet-step}
use Rattle.crc_fields.proofs.x25.take_octet.Goals as goal

pub returns : goal.returns
returns c = ap (λ (x : ℕ). bit_xor x (c.args.register / 256)) c.entry.ensures ∙ octet-step 0x8408 c.args.register c.args.octet
