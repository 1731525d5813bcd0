use Rattle.peer_records.proofs.TiedLemmas.{all-step}
use Rattle.peer_records.proofs.to_add.ToAdd.all.Goals as goal

pub pending-preserved : goal.pending-preserved
pending-preserved c =
    all-step c.args.pending.now c.pending.one-index c.one-item.result c.pending.to_add c.push.new.self c.pending-test.true c.one-item.is c.in_ok-push.ensures c.pending.invariant
