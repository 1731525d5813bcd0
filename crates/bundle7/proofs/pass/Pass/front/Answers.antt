-- What a block has before its body, and what is left after it.
use Rattle.std.proofs.Common.{ap, ◌∙◌, ◌-◌, arith}
use Rattle.bundle7.proofs.PassLemmas.{front-step}
use Rattle.bundle7.proofs.pass.Pass.front.Goals as goal

pub returns-clause-exact : goal.returns-clause-exact
returns-clause-exact c =
    front-step c.args.most c.args.text.now c.args.self.now (λ i. omega (arith, c.type_inv.text i)) c.requires.fits.place
    (c.args.most - c.count.result) c.in_ok-front.front c.up_to-sum.result c.in_ok-front.at c.requires.stage
    (ap (λ n. c.args.most - n) c.count.ensures) (c.up_to-sum.ensures.from ∙ c.new.ensures.from) c.in_ok-front.ensures.exact
