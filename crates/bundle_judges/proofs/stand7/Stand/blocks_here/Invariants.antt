-- The blocks so far.
use Rattle.std.proofs.Common.{◌≡◌, ◌-◌, ◌≤◌, ℕ, List, length}
use Rattle.bundle_judges.specs.declared.stand7.Small.TheVariants.{Block}
use Rattle.bundle_judges.specs.declared.stand7.Stage.TheVariants.{Field}
use Rattle.bundle_judges.specs.Stand7.{Reaches}
use Rattle.bundle_judges.proofs.StandLemmas7.{with_seen}
use Rattle.bundle_judges.proofs.stand7.Stand.blocks_here.Given as goal

abbrev pub invariant-following : goal.invariant-following
invariant-following l = record {
  same : l.self ≡ with_seen l.initial.self l.self.seen;
  within : l.to ≤ length l.rest;
  there : (text : List ℕ) × Reaches text l.self l.rest (Field Block) l.to;
  so_far : (text : List ℕ) → Reaches text l.initial.self l.rest (Field Block) l.from → Reaches text l.self l.rest (Field Block) l.to;
}

abbrev pub decreases-following : goal.decreases-following
decreases-following l = length l.rest - l.to
