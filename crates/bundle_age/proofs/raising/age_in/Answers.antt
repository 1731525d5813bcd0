use Rattle.std.proofs.Common.{arith}
use Rattle.bundle_age.proofs.AgeLemmas.{age-is}
use Rattle.bundle_age.proofs.raising.age_in.Goals as goal

pub returns : goal.returns
returns c = age-is c.args.octets.now c.age_of.result (λ i. omega (arith, c.type_inv.octets i)) c.age_of.ensures.found c.age_of.ensures.only
