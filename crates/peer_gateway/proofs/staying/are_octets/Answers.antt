use Rattle.std.proofs.Common.{arith}
use Rattle.peer_gateway.proofs.staying.are_octets.Goals as goal

pub returns : goal.returns
returns c = λ i. omega (arith, c.type_inv.octets i)
