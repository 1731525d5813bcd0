-- The mark and the primary block, and the blocks after them.
use Rattle.std.proofs.Common.{arith, refl}
use Rattle.bundle7.proofs.PassLemmas.{start-step, start-refused, steps-fault}
use Rattle.bundle7.proofs.pass.Pass.primary.Goals as goal

pub returns-in_err-part-clause-exact : goal.returns-in_err-part-clause-exact
returns-in_err-part-clause-exact c =
    steps-fault c.args.most c.args.text.now c.args.self.now c.args.self.now c.from_residual.result c.in_err-part.field-0.0
    c.from_residual.ensures.1 refl
    (start-refused c.args.most c.args.text.now c.args.self.now _ c.requires.stage c.in_err-part.ensures.exact)

pub returns-clause-exact : goal.returns-clause-exact
returns-clause-exact c =
    start-step c.args.most c.args.text.now c.args.self.now (λ i. omega (arith, c.type_inv.text i)) c.requires.fits.place
    c.in_ok-part.part c.clear.new.self c.in_ok-part.at c.requires.stage c.clear.ensures c.in_ok-part.ensures.exact
