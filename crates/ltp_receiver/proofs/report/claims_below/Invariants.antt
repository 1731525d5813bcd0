use Rattle.std.proofs.Common.{map, take}
use Rattle.spans.specs.Places.{runs_of}
use Rattle.ltp_session.specs.Claims.{claim_of}
use Rattle.ltp_receiver.specs.declared.report.TheConstants.{MOST_CLAIMS}
use Rattle.ltp_receiver.proofs.ReportLemmas.{ClaimsSoFar}
use Rattle.ltp_receiver.proofs.report.claims_below.Given as goal

abbrev pub invariant-claiming : goal.invariant-claiming
invariant-claiming l =
    ClaimsSoFar MOST_CLAIMS l.upper l.claims.items l.run-iterator
    (take MOST_CLAIMS (map claim_of (runs_of (take l.upper l.places))))
