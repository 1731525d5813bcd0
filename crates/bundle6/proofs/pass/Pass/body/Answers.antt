-- The octets of a block, and what is left after them.
use Rattle.std.proofs.Common.{arith}
use Rattle.bundle6.specs.declared.pass.Stage.TheVariants as stages
use Rattle.bundle6.specs.Passing.{texts_in}
use Rattle.bundle6.proofs.PassLemmas.{body-continues, body-fails, steps-fault}
use Rattle.bundle6.proofs.pass.Pass.body.Goals as goal

pub returns-in_err-at-clause-exact : goal.returns-in_err-at-clause-exact
returns-in_err-at-clause-exact c =
    steps-fault c.args.most c.args.text.now c.args.self (stages.References 0 c.args.payload c.args.last) c.from_residual.result
    c.in_err-at.field-0.0 c.from_residual.ensures.1
    (body-fails c.args.most c.args.self.part (texts_in c.args.self.texts c.args.text.now) c.args.text.now c.args.self.seen
    c.args.payload c.args.last c.args.self.at _ c.in_err-at.ensures.exact)

pub returns-clause-exact : goal.returns-clause-exact
returns-clause-exact c =
    rw c.after_block-stage.ensures
    (body-continues c.args.most c.args.self.part (texts_in c.args.self.texts c.args.text.now) c.args.text.now c.args.self.seen
    c.args.payload c.args.last c.args.self.at c.in_ok-at.at (λ i. omega (arith, c.type_inv.text i)) c.requires.fits.place
    c.in_ok-at.ensures.exact)
