use Rattle.std.proofs.Common.{refl}
use Rattle.ltp_session.specs.Claims.{claims_below}
use Rattle.spans.specs.Places.{runs_of}
use Rattle.ltp_session.proofs.examples.claims_are_cut_after_the_last.Goals as goal

pub returns : goal.returns
unfolding claims_below runs_of
returns c = record { two = refl; three = refl }
