use Rattle.std.proofs.Common.{not, ◌++◌, [], ◌∷◌, refl, sym, subst}
use Rattle.bundle_meaning.specs.Valid.{IsValid}
use Rattle.translate.specs.declared.refused.Refused.TheVariants as causes
use Rattle.translate.specs.Translation.{there7}
use Rattle.translate.specs.View6.{fits6}
use Rattle.translate.specs.Reading7.{refusals7, full7_of}
use Rattle.translate.proofs.CauseLemmas.{refused, are-causes7, are-more}
use Rattle.translate.proofs.Sound7Lemmas.{sound7}
use Rattle.translate.proofs.BackLaws.{unrefused-read7}
use Rattle.translate.proofs.MadeLemmas.{old-legal}
use Rattle.translate.proofs.translation.to_old.Goals as goal

pub made6-requires : goal.made6-requires
made6-requires c =
    subst IsValid (sym c.in_ok-full7-in-None.ensures)
    (sound7 c.args.bundle.now c.requires (c.in-None.ensures.octets refl) (unrefused-read7 c.args.bundle.now (sym c.in-None.ensures.exact))).valid

pub returns-in_ok-made6-in-None-clause-legal : goal.returns-in_ok-made6-in-None-clause-legal
returns-in_ok-made6-in-None-clause-legal c =
    old-legal c.args.bundle.now c.in_ok-full7-in-None.field-0 c.in_ok-made6-in-None.field-0 c.requires (c.in-None.ensures.octets refl)
    (sym c.in-None.ensures.exact) c.in_ok-full7-in-None.ensures c.in_ok-made6-in-None.ensures.view c.in_ok-made6-in-None.ensures.sized

pub returns-in-Some-clause-exact : goal.returns-in-Some-clause-exact
returns-in-Some-clause-exact c =
    let wide = not (fits6 (full7_of c.args.bundle.now)) in
    refused (refusals7 c.args.bundle.now ++ (causes.TooManyBlocks, wide) ∷ []) (there7 c.args.bundle.now) c.in-Some.cause
    (are-more (refusals7 c.args.bundle.now) wide (are-causes7 c.args.bundle.now)) c.in-Some.ensures.exact
