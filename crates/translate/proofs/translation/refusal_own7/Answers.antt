use Rattle.std.proofs.Common.{◌∙◌, sym}
use Rattle.translate.proofs.BackLaws.{own-refusal7}
use Rattle.translate.proofs.translation.refusal_own7.Goals as goal

pub returns-clause-exact : goal.returns-clause-exact
returns-clause-exact c = c.refusal7.ensures.exact ∙ sym (own-refusal7 c.args.bundle.now c.requires)
