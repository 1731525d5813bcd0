use Rattle.std.proofs.Common.{ap}
use Rattle.world_run.specs.World.{start_in, start_said}
use Rattle.world_run.proofs.StartLemmas.{was_said, read_sound}
use Rattle.world_run.proofs.script.read_start.Goals as goal

pub policy_within-policy-requires-clause-segments : goal.policy_within-policy-requires-clause-segments
policy_within-policy-requires-clause-segments c = (read_sound _ _ _ _ _ _ _ _ (rw c.in-Path.is at c.in_ok-gate.ensures)).segments

pub policy_within-policy-requires-clause-timeouts : goal.policy_within-policy-requires-clause-timeouts
policy_within-policy-requires-clause-timeouts c = (read_sound _ _ _ _ _ _ _ _ (rw c.in-Path.is at c.in_ok-gate.ensures)).timeouts.0

pub policy_within-policy-requires-clause-limits : goal.policy_within-policy-requires-clause-limits
policy_within-policy-requires-clause-limits c = (read_sound _ _ _ _ _ _ _ _ (rw c.in-Path.is at c.in_ok-gate.ensures)).limits

pub policy_within-policy-requires-clause-caps : goal.policy_within-policy-requires-clause-caps
policy_within-policy-requires-clause-caps c = (read_sound _ _ _ _ _ _ _ _ (rw c.in-Path.is at c.in_ok-gate.ensures)).caps

pub returns-in-Path : goal.returns-in-Path
unfolding start_in
returns-in-Path c =
    let reads = rw c.in-Path.is at c.in_ok-gate.ensures in
    let sound = read_sound _ _ _ _ _ _ _ _ reads in (
      rw c.policy_within-policy.ensures (ap start_said (was_said _ _ _ _ _ _ _ _ reads)),
      record { named = sound.named; legal = sound.legal; cut_least = sound.cuts.0; cut_most = sound.cuts.1 },
    )
