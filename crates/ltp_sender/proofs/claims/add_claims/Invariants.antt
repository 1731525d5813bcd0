use Rattle.ltp_segment.specs.Claims.{claims_left}
use Rattle.ltp_session.specs.Claims.{with_claims}
use Rattle.ltp_sender.proofs.ClaimLemmas.{AreAdded}
use Rattle.ltp_sender.proofs.claims.add_claims.Given as goal

abbrev pub invariant-adding : goal.invariant-adding
invariant-adding l =
    AreAdded l.lower l.upper (claims_left l.claim-iterator) l.claimed
    (with_claims l.lower (claims_left l.initial.claims) l.initial.claimed)
