use Rattle.std.proofs.Common.{◌+◌, ◌*◌, ◌≤◌, length}
use Rattle.std.specs.String.{string_bytes}
use Rattle.bundle_runs.specs.declared.bundle_reader.Standing.{Standing}
use Rattle.bundle_runs.specs.Checking.{Shadows, IsShadowed}
use Rattle.bundle_runs.proofs.CheckStepLemmas.{ChecksSoFar}
use Rattle.bundle_runs.proofs.check_reader.Checking.feed.Given as goal

abbrev pub invariant-bundles : goal.invariant-bundles
invariant-bundles l = record {
  shadowed : IsShadowed l.self;
  room : l.self.at + l.self.taken + length l.left ≤ 67108864;
  so_far : (start : Standing) → Shadows l.initial.self start → ChecksSoFar start l.self l.piece l.left (string_bytes l.initial.text) (string_bytes l.text);
}

abbrev pub decreases-bundles : goal.decreases-bundles
decreases-bundles l = l.self.taken + 2 * (length l.left)
