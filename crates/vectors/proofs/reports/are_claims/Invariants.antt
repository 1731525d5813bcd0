use Rattle.std.proofs.Common.{drop}
use Rattle.ltp_segment.specs.Legal.{AreClaims}
use Rattle.vectors.proofs.reports.are_claims.Given as goal

-- the claims from here on can follow: then all can stand
abbrev pub invariant-loop-claim : goal.invariant-loop-claim
invariant-loop-claim l =
    AreClaims l.most l.end (drop l.claim-index l.claims) → AreClaims l.most 0 l.claims
