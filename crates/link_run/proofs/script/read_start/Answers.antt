use Rattle.link_run.proofs.StartLemmas.{read_sound}
use Rattle.link_run.proofs.script.read_start.Goals as goal

pub policy_within-policy-requires-clause-segments : goal.policy_within-policy-requires-clause-segments
policy_within-policy-requires-clause-segments c = (read_sound _ _ _ _ _ _ (rw c.in-Link.is at c.in_ok-segment.ensures)).segments

pub policy_within-policy-requires-clause-timeouts : goal.policy_within-policy-requires-clause-timeouts
policy_within-policy-requires-clause-timeouts c = (read_sound _ _ _ _ _ _ (rw c.in-Link.is at c.in_ok-segment.ensures)).timeouts.0

pub policy_within-policy-requires-clause-limits : goal.policy_within-policy-requires-clause-limits
policy_within-policy-requires-clause-limits c = (read_sound _ _ _ _ _ _ (rw c.in-Link.is at c.in_ok-segment.ensures)).limits

pub policy_within-policy-requires-clause-caps : goal.policy_within-policy-requires-clause-caps
policy_within-policy-requires-clause-caps c = (read_sound _ _ _ _ _ _ (rw c.in-Link.is at c.in_ok-segment.ensures)).caps
