-- The primary block, and the blocks after it.
use Rattle.std.proofs.Common.{arith}
use Rattle.bundle6.specs.declared.pass.Stage.TheVariants as stages
use Rattle.bundle6.specs.Passing.{texts_in}
use Rattle.bundle6.proofs.PassLemmas.{primary-continues, primary-fails, steps-fault}
use Rattle.bundle6.proofs.pass.Pass.primary.Goals as goal

pub returns-in_err-part-clause-exact : goal.returns-in_err-part-clause-exact
returns-in_err-part-clause-exact c =
    steps-fault c.args.most c.args.text.now c.args.self stages.Primary c.from_residual.result c.in_err-part.field-0.0
    c.from_residual.ensures.1
    (primary-fails c.args.most c.args.text.now c.args.self.at _ c.in_err-part.ensures.exact)

pub returns-clause-exact : goal.returns-clause-exact
returns-clause-exact c =
    primary-continues c.args.most c.args.text.now c.args.self.at c.in_ok-part.at c.in_ok-part.part
    (texts_in c.in_ok-part.texts c.args.text.now) (λ i. omega (arith, c.type_inv.text i)) c.requires.fits.place
    c.in_ok-part.ensures.exact
