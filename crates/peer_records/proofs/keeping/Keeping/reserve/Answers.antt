use Rattle.peer_records.proofs.TiedLemmas.{tied-reserved}
use Rattle.peer_records.proofs.keeping.Keeping.reserve.Goals as goal

pub invariant_of-self : goal.invariant_of-self
invariant_of-self c =
    tied-reserved c.args.old_next c.args.new_next c.self.inside.said c.reserve_all.new.self c.self.inside.held c.self.inside.to_add c.self.invariant c.in-Ok.ensures.ok
