use Rattle.std.proofs.Common.{length, ap, ◌∙◌}
use Rattle.ltp_segment.specs.Claims.{claims_left}
use Rattle.ltp_sender.proofs.ClaimLemmas.{length-with_claims}
use Rattle.ltp_sender.proofs.kept.Kept.add.Goals as goal

pub invariant_of-result : goal.invariant_of-result
invariant_of-result c = record {
  red_within = c.args.self.red_within;
  limit = ap (λ xs. length xs) c.in_ok-add_claims.ensures
      ∙ length-with_claims c.args.report.lower (claims_left c.args.report.claims) c.args.self.claimed
      ∙ c.args.self.limit;
  sound = c.args.self.sound;
}
