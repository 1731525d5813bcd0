use Rattle.std.proofs.Common.{not, [], ◌∷◌, sym}
use Rattle.translate.specs.declared.refused.Refused.TheVariants as causes
use Rattle.translate.specs.View6.{fits6}
use Rattle.translate.specs.Reading7.{refusals7, full7_of}
use Rattle.translate.proofs.RefusalLemmas.{some-stays}
use Rattle.translate.proofs.translation.refusal_old.Goals as goal

pub returns-in-Some-clause-exact : goal.returns-in-Some-clause-exact
returns-in-Some-clause-exact c =
    sym (some-stays (refusals7 c.args.bundle.now) ((causes.TooManyBlocks, not (fits6 (full7_of c.args.bundle.now))) ∷ []) c.in-Some.cause (sym c.in-Some.ensures.exact))
