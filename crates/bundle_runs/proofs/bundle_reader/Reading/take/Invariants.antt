use Rattle.std.proofs.Common.{◌≡◌, ◌+◌, ◌≤◌, length, []}
use Rattle.std.specs.String.{string_bytes}
use Rattle.bundle_runs.specs.Taking.{IsSound}
use Rattle.bundle_runs.specs.Telling.{ReadSoFar}
use Rattle.bundle_runs.proofs.bundle_reader.Reading.take.Given as goal

abbrev pub invariant-bundles : goal.invariant-bundles
invariant-bundles l = record {
  sound : IsSound l.self.standing;
  none_due : l.self.due ≡ [];
  inside : length l.left ≤ length l.piece;
  room : l.self.standing.at + l.self.standing.taken + length l.left ≤ 67108864;
  so_far : ReadSoFar l.initial.self.standing l.piece l.left (string_bytes l.initial.text) l.self.standing l.self.due (string_bytes l.text);
}

abbrev pub decreases-bundles : goal.decreases-bundles
decreases-bundles l = length l.left
