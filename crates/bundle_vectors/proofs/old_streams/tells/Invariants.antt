use Rattle.std.proofs.Common.{◌≤◌, length}
use Rattle.bundle_vectors.specs.Streams.{IsAt6}
use Rattle.bundle_vectors.proofs.old_streams.tells.Given as goal

abbrev pub invariant-feeding : goal.invariant-feeding
invariant-feeding l = IsAt6 l.reader l.at × (l.at ≤ length l.stream)
