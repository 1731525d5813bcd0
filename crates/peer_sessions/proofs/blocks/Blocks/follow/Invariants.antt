use Rattle.std.proofs.Common.{◌≡◌, ◌++◌, drop}
use Rattle.ltp_segment.specs.PolicyViews.{policy_value}
use Rattle.peer_sessions.specs.Blocks.{blocks_after}
use Rattle.peer_sessions.proofs.blocks.Blocks.follow.Given as goal

abbrev pub invariant-following : goal.invariant-following
invariant-following l = l.left.items ++ blocks_after l.event (policy_value l.policy) l.now l.engine.senders (drop l.block-index l.block-items) ≡ blocks_after l.event (policy_value l.policy) l.now l.engine.senders l.block-items
