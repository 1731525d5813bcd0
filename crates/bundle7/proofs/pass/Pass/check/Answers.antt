-- The check of a block, and what is left after the block.
use Rattle.std.proofs.Common.{arith, ◌∙◌, sym}
use Rattle.bundle7.proofs.PassLemmas.{last-step, more-step}
use Rattle.bundle7.proofs.pass.Pass.check.Goals as goal

pub returns-then-is_last-clause-exact : goal.returns-then-is_last-clause-exact
returns-then-is_last-clause-exact c =
    let summed = rw c.requires.stage at c.requires.fits.summed in
    last-step c.args.most c.args.text.now c.args.self.now (λ i. omega (arith, c.type_inv.text i)) c.requires.fits.place
    c.args.lead c.args.sum c.in_ok-at.at c.requires.stage summed.1 summed.2 c.in_ok-at.ensures.exact
    (rw c.count.ensures at (sym c.is_last.ensures ∙ c.if-is_last.true))

pub returns-else-is_last-clause-exact : goal.returns-else-is_last-clause-exact
returns-else-is_last-clause-exact c =
    let summed = rw c.requires.stage at c.requires.fits.summed in
    more-step c.args.most c.args.text.now c.args.self.now (λ i. omega (arith, c.type_inv.text i)) c.requires.fits.place
    c.args.lead c.args.sum c.push.new.self c.in_ok-at.at c.requires.stage summed.1 summed.2 c.in_ok-at.ensures.exact
    c.requires.fits.few (rw c.count.ensures at (sym c.is_last.ensures ∙ c.if-is_last.false)) c.push.ensures
