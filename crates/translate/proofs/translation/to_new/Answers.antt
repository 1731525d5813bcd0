use Rattle.std.proofs.Common.{not, ◌++◌, [], ◌∷◌, refl, sym, subst}
use Rattle.bundle_meaning.specs.Valid.{IsValid}
use Rattle.translate.specs.declared.refused.Refused.TheVariants as causes
use Rattle.translate.specs.Translation.{there6}
use Rattle.translate.specs.View7.{fits7}
use Rattle.translate.specs.Reading6.{refusals6, full6_of}
use Rattle.translate.proofs.CauseLemmas.{refused, are-causes6, are-more}
use Rattle.translate.proofs.Sound6Lemmas.{sound6}
use Rattle.translate.proofs.BackLaws.{unrefused-read6}
use Rattle.translate.proofs.MadeLemmas.{new-legal}
use Rattle.translate.proofs.translation.to_new.Goals as goal

pub made7-requires : goal.made7-requires
made7-requires c =
    subst IsValid (sym c.in_ok-full6-in-None.ensures)
    (sound6 c.args.bundle.now c.requires (c.in-None.ensures.octets refl) (unrefused-read6 c.args.bundle.now (sym c.in-None.ensures.exact))).valid

pub returns-in_ok-made7-in-None-clause-legal : goal.returns-in_ok-made7-in-None-clause-legal
returns-in_ok-made7-in-None-clause-legal c =
    new-legal c.args.bundle.now c.in_ok-full6-in-None.field-0 c.in_ok-made7-in-None.field-0 c.requires (c.in-None.ensures.octets refl)
    (sym c.in-None.ensures.exact) c.in_ok-full6-in-None.ensures c.in_ok-made7-in-None.ensures.view c.in_ok-made7-in-None.ensures.sized

pub returns-in-Some-clause-exact : goal.returns-in-Some-clause-exact
returns-in-Some-clause-exact c =
    let wide = not (fits7 (full6_of c.args.bundle.now)) in
    refused (refusals6 c.args.bundle.now ++ (causes.TooManyBlocks, wide) ∷ []) (there6 c.args.bundle.now) c.in-Some.cause
    (are-more (refusals6 c.args.bundle.now) wide (are-causes6 c.args.bundle.now)) c.in-Some.ensures.exact

pub full6-requires : goal.full6-requires
full6-requires c = unrefused-read6 c.args.bundle.now (sym c.in-None.ensures.exact)
