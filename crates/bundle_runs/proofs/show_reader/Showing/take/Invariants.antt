use Rattle.std.proofs.Common.{◌≡◌, ◌+◌, ◌≤◌, length, [], None}
use Rattle.std.specs.String.{string_bytes}
use Rattle.bundle_runs.specs.declared.bundle_reader.Standing.{Standing}
use Rattle.bundle_runs.specs.Showing.{ShowsAs, IsShowing, ShowsSoFar}
use Rattle.bundle_runs.proofs.show_reader.Showing.take.Given as goal

abbrev pub invariant-bundles : goal.invariant-bundles
invariant-bundles l = record {
  showing : IsShowing l.self;
  none_due : l.self.telling ≡ None;
  inside : length l.left ≤ length l.piece;
  room : l.self.at + l.self.taken + length l.left ≤ 67108864;
  so_far : (old : Standing) → ShowsAs l.initial.self [] old
      → ShowsSoFar old l.piece l.left (string_bytes l.initial.text) l.self (string_bytes l.text);
}

abbrev pub decreases-bundles : goal.decreases-bundles
decreases-bundles l = length l.left
