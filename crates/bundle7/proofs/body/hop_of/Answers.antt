use Rattle.std.proofs.Common.{arith}
use Rattle.bundle7.specs.declared.fault.Cause7.TheVariants.{ExtensionBody}
use Rattle.bundle7.specs.Body.{hop}
use Rattle.bundle7.proofs.CallLemmas.{optional-found, optional-only}
use Rattle.bundle7.proofs.body.hop_of.Goals as goal

pub returns-clause-found : goal.returns-clause-found
returns-clause-found c = optional-found hop ExtensionBody c.args.body.now c.whole_hop.result (λ i. omega (arith, c.type_inv.body i)) c.whole_hop.ensures

pub returns-clause-only : goal.returns-clause-only
returns-clause-only c = optional-only hop ExtensionBody c.args.body.now c.whole_hop.result c.whole_hop.ensures
