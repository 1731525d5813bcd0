use Rattle.std.proofs.Common.{refl}
use Rattle.ltp_session.specs.Claims.{claims_below}
use Rattle.spans.specs.Places.{runs_of}
use Rattle.ltp_session.proofs.examples.claims_end_at_the_bound.Goals as goal

pub returns : goal.returns
unfolding claims_below runs_of
returns c = refl
