use Rattle.std.proofs.Common.{arith}
use Rattle.translate.proofs.private.is_wrap.Goals as goal

pub returns-then-kind-eq-WRAP-clause-octets : goal.returns-then-kind-eq-WRAP-clause-octets
returns-then-kind-eq-WRAP-clause-octets c = λ i. omega (arith, c.type_inv.body i)

pub returns-else-kind-eq-WRAP-clause-octets : goal.returns-else-kind-eq-WRAP-clause-octets
returns-else-kind-eq-WRAP-clause-octets c = λ i. omega (arith, c.type_inv.body i)
