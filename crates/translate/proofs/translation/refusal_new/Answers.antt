use Rattle.std.proofs.Common.{not, [], ◌∷◌, sym}
use Rattle.translate.specs.declared.refused.Refused.TheVariants as causes
use Rattle.translate.specs.View7.{fits7}
use Rattle.translate.specs.Reading6.{refusals6, full6_of}
use Rattle.translate.proofs.RefusalLemmas.{some-stays}
use Rattle.translate.proofs.translation.refusal_new.Goals as goal

pub returns-in-Some-clause-exact : goal.returns-in-Some-clause-exact
returns-in-Some-clause-exact c =
    sym (some-stays (refusals6 c.args.bundle.now) ((causes.TooManyBlocks, not (fits7 (full6_of c.args.bundle.now))) ∷ []) c.in-Some.cause (sym c.in-Some.ensures.exact))
