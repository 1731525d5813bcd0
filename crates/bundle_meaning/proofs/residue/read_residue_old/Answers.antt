-- Each clause follows from the exact one.
use Rattle.std.proofs.Common.{arith}
use Rattle.bundle_meaning.specs.Residue.{residue_old}
use Rattle.bundle_meaning.proofs.BodyLemmas.{body-found, body-sure, body-bad}
use Rattle.bundle_meaning.proofs.residue.read_residue_old.Goals as goal

pub returns-clause-found : goal.returns-clause-found
returns-clause-found c = body-found residue_old c.whole_residue.result c.args.body.now (λ i. omega (arith, c.type_inv.body i)) c.whole_residue.ensures.exact

pub returns-clause-only : goal.returns-clause-only
returns-clause-only c = body-sure residue_old c.whole_residue.result c.args.body.now c.whole_residue.ensures.sure c.whole_residue.ensures.exact

pub returns-clause-bad : goal.returns-clause-bad
returns-clause-bad c = body-bad residue_old c.whole_residue.result c.args.body.now (λ i. omega (arith, c.type_inv.body i)) c.whole_residue.ensures.exact
