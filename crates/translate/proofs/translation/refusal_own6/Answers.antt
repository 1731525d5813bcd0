use Rattle.std.proofs.Common.{◌∙◌, sym}
use Rattle.translate.proofs.BackLaws.{own-refusal6}
use Rattle.translate.proofs.translation.refusal_own6.Goals as goal

pub returns-clause-exact : goal.returns-clause-exact
returns-clause-exact c = c.refusal6.ensures.exact ∙ sym (own-refusal6 c.args.bundle.now c.requires)
