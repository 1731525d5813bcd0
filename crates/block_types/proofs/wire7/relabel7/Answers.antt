use Rattle.block_types.specs.Relabelled.{relabelled7}
use Rattle.block_types.proofs.LegalLemmas7.{relabelled7-legal}
use Rattle.block_types.proofs.wire7.relabel7.Goals as goal

pub returns-clause-legal : goal.returns-clause-legal
unfolding relabelled7
returns-clause-legal c = λ legal. rw c.retyped.ensures (relabelled7-legal c.args.types c.args.bundle legal)
