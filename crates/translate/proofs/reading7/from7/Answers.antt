use Rattle.std.proofs.Common.{refl, sym, subst}
use Rattle.translate.specs.Sound.{IsSound}
use Rattle.translate.specs.Reading7.{refusals7, full7_of}
use Rattle.translate.proofs.CauseLemmas.{refused, are-causes7}
use Rattle.translate.proofs.Sound7Lemmas.{sound7}
use Rattle.translate.proofs.reading7.from7.Goals as goal

pub returns-in_ok-full7-in-None-clause-sound : goal.returns-in_ok-full7-in-None-clause-sound
returns-in_ok-full7-in-None-clause-sound c =
    subst IsSound (sym c.in_ok-full7-in-None.ensures)
    (sound7 c.args.bundle.now c.requires (c.in-None.ensures.octets refl) (sym c.in-None.ensures.exact))

pub returns-in-Some-clause-exact : goal.returns-in-Some-clause-exact
returns-in-Some-clause-exact c =
    refused (refusals7 c.args.bundle.now) (full7_of c.args.bundle.now) c.in-Some.cause (are-causes7 c.args.bundle.now) c.in-Some.ensures.exact
