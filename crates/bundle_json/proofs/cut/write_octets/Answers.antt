use Rattle.std.proofs.Common.{arith}
use Rattle.bundle_json.proofs.cut.write_octets.Goals as goal

pub returns-clause-small : goal.returns-clause-small
returns-clause-small c = λ i. let fits = c.type_inv.octets i in omega arith
