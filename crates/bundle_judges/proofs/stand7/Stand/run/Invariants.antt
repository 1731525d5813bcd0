-- The steps so far.
use Rattle.std.proofs.Common.{◌≡◌, ℕ, ◌+◌, ◌*◌, ◌^◌, ◌<◌, List, length, drop}
use Rattle.bundle_judges.specs.Stand7.{IsThere, IsAt, steps_left}
use Rattle.bundle_judges.proofs.RunLemmas7.{SoFar}
use Rattle.bundle_judges.proofs.stand7.Stand.run.Given as goal

abbrev pub invariant-steps : goal.invariant-steps
invariant-steps l = record {
  there : IsThere l.self l.rest;
  counted : l.self.came + length l.rest < 2 ^ 64;
  so_far : (text : List ℕ) → IsAt text l.initial.self → l.near ≡ drop l.initial.self.came text → SoFar text l.initial.self l.self l.rest;
}

abbrev pub decreases-steps : goal.decreases-steps
decreases-steps l = 4 * length l.rest + steps_left l.self.stage
