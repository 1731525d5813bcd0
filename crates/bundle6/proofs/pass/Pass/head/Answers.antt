-- The head of a block, and what is left after it.
use Rattle.std.proofs.Common.{arith}
use Rattle.bundle6.specs.declared.pass.Stage.TheVariants as stages
use Rattle.bundle6.specs.Passing.{texts_in}
use Rattle.bundle6.proofs.PassLemmas.{head-continues, head-fails, steps-fault}
use Rattle.bundle6.proofs.pass.Pass.head.Goals as goal

pub returns-in_err-head-clause-exact : goal.returns-in_err-head-clause-exact
returns-in_err-head-clause-exact c =
    steps-fault c.args.most c.args.text.now c.args.self stages.Block c.from_residual.result c.in_err-head.field-0.0
    c.from_residual.ensures.1
    (head-fails c.args.most c.args.self.part (texts_in c.args.self.texts c.args.text.now) c.args.text.now c.args.self.seen
    c.args.self.at _ c.in_err-head.ensures.exact)

pub returns-clause-exact : goal.returns-clause-exact
returns-clause-exact c =
    head-continues c.args.most c.args.self.part (texts_in c.args.self.texts c.args.text.now) c.args.text.now c.args.self.seen
    c.in_ok-head.head c.args.self.at c.in_ok-head.at (λ i. omega (arith, c.type_inv.text i)) c.requires.fits.place
    c.in_ok-head.ensures.follows c.in_ok-head.ensures.exact
