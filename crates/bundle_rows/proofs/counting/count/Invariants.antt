use Rattle.std.proofs.Common.{◌-◌, length}
use Rattle.bundle_rows.proofs.CountLemmas.{Counting}
use Rattle.bundle_rows.proofs.counting.count.Given as goal

abbrev pub invariant-reading : goal.invariant-reading
invariant-reading l = record { so_far : Counting l.face l.block l.bundles l.place }

abbrev pub decreases-reading : goal.decreases-reading
decreases-reading l = length l.block - l.place
