use Rattle.std.proofs.Common.{◌≡◌}
use Rattle.translate.proofs.MapLemmas.{become}
use Rattle.bundle_age.specs.Raised.{raised_ext}
use Rattle.bundle_age.proofs.raising.raise_all.Given as goal

abbrev pub invariant-raising : goal.invariant-raising
invariant-raising l = l.exts ≡ become (raised_ext l.stay) l.ext-index l.initial.exts
