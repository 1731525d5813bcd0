use Rattle.std.proofs.Common.{refl, sym, subst}
use Rattle.translate.specs.Sound.{IsSound}
use Rattle.translate.specs.Reading6.{refusals6, full6_of}
use Rattle.translate.proofs.CauseLemmas.{refused, are-causes6}
use Rattle.translate.proofs.Sound6Lemmas.{sound6}
use Rattle.translate.proofs.reading6.from6.Goals as goal

pub returns-in_ok-full6-in-None-clause-sound : goal.returns-in_ok-full6-in-None-clause-sound
returns-in_ok-full6-in-None-clause-sound c =
    subst IsSound (sym c.in_ok-full6-in-None.ensures)
    (sound6 c.args.bundle.now c.requires (c.in-None.ensures.octets refl) (sym c.in-None.ensures.exact))

pub returns-in-Some-clause-exact : goal.returns-in-Some-clause-exact
returns-in-Some-clause-exact c =
    refused (refusals6 c.args.bundle.now) (full6_of c.args.bundle.now) c.in-Some.cause (are-causes6 c.args.bundle.now) c.in-Some.ensures.exact
