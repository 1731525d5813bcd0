use Rattle.std.proofs.Common.{sym}
use Rattle.bundle_age.specs.Raised.{raised_by}
use Rattle.bundle_age.proofs.AgeLemmas.{raised-sound, raised-ageless}
use Rattle.bundle_age.proofs.raising.raised.Goals as goal

pub returns-then-not-has_age-clause-exact : goal.returns-then-not-has_age-clause-exact
returns-then-not-has_age-clause-exact c = sym (raised-ageless c.args.stay c.args.full (sym c.if-not-has_age.ensures))

pub returns-clause-sound : goal.returns-clause-sound
unfolding raised_by
returns-clause-sound c = λ sound. rw c.in_ok-raised_exts.ensures (raised-sound c.args.stay c.args.full sound)
