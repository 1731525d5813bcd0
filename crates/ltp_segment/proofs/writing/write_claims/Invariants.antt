use Rattle.std.proofs.Common.{◌≡◌, ◌++◌, take}
use Rattle.std.specs.List.{flat_map}
use Rattle.ltp_segment.specs.Spelling.{claim_octets}
use Rattle.ltp_segment.proofs.writing.write_claims.Given as goal

abbrev pub invariant-loop-claim : goal.invariant-loop-claim
invariant-loop-claim l = l.out.items ≡ l.initial.out.items ++ flat_map claim_octets (take l.claim-index l.claims)
