-- Each clause follows from the exact one.
use Rattle.std.proofs.Common.{arith}
use Rattle.bundle_meaning.specs.Residue.{residue_new}
use Rattle.bundle_meaning.proofs.BodyLemmas.{body-found, body-only, body-bad}
use Rattle.bundle_meaning.proofs.residue_new.read_residue_new.Goals as goal

pub returns-clause-found : goal.returns-clause-found
returns-clause-found c = body-found residue_new c.whole_residue.result c.args.body.now (λ i. omega (arith, c.type_inv.body i)) c.whole_residue.ensures

pub returns-clause-only : goal.returns-clause-only
returns-clause-only c = body-only residue_new c.whole_residue.result c.args.body.now c.whole_residue.ensures

pub returns-clause-bad : goal.returns-clause-bad
returns-clause-bad c = body-bad residue_new c.whole_residue.result c.args.body.now (λ i. omega (arith, c.type_inv.body i)) c.whole_residue.ensures
