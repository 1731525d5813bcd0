use Rattle.block_types.specs.Relabelled.{relabelled6}
use Rattle.block_types.proofs.LegalLemmas6.{relabelled6-legal}
use Rattle.block_types.proofs.wire6.relabel6.Goals as goal

pub returns-clause-legal : goal.returns-clause-legal
unfolding relabelled6
returns-clause-legal c = λ legal. rw c.retyped.ensures (relabelled6-legal c.args.types c.args.bundle legal)
