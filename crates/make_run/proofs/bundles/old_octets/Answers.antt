use Rattle.std.proofs.Common.{arith}
use Rattle.make_run.proofs.BundleLemmas.{old_bundle-legal}
use Rattle.make_run.proofs.bundles.old_octets.Goals as goal

pub encode6-requires : goal.encode6-requires
encode6-requires c = rw c.in_ok-bundle.ensures (old_bundle-legal c.args.i c.args.size (omega arith) (omega arith))
