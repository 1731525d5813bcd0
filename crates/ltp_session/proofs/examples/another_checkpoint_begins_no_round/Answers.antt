use Rattle.std.proofs.Common.{refl}
use Rattle.ltp_session.specs.Claims.{with_range, with_claims}
use Rattle.ltp_session.specs.Sender.{report_step, are_claimed, unclaimed, segments_from, last_segment, red_pieces}
use Rattle.ltp_session.proofs.examples.another_checkpoint_begins_no_round.Goals as goal

pub returns : goal.returns
unfolding report_step with_range with_claims are_claimed unclaimed segments_from last_segment red_pieces
returns c = refl
