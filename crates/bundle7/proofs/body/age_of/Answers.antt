use Rattle.std.proofs.Common.{arith}
use Rattle.bundle7.specs.declared.fault.Cause7.TheVariants.{ExtensionBody}
use Rattle.bundle7.specs.Body.{age}
use Rattle.bundle7.proofs.CallLemmas.{optional-found, optional-only}
use Rattle.bundle7.proofs.body.age_of.Goals as goal

pub returns-clause-found : goal.returns-clause-found
returns-clause-found c = optional-found age ExtensionBody c.args.body.now c.whole_age.result (λ i. omega (arith, c.type_inv.body i)) c.whole_age.ensures

pub returns-clause-only : goal.returns-clause-only
returns-clause-only c = optional-only age ExtensionBody c.args.body.now c.whole_age.result c.whole_age.ensures
