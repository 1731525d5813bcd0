use Rattle.std.proofs.Common.{arith}
use Rattle.translate.proofs.private.holds_octets.Goals as goal

pub returns : goal.returns
returns c = λ i. omega (arith, c.type_inv.body i)
