use Rattle.std.proofs.Math.Logic.{∥∥₁_map}
use Rattle.gate_journaled.proofs.SaysLemmas.{says-same}
use Rattle.gate_journaled.proofs.journaled.JournaledOutside.take_foreign.Goals as goal

pub invariant_of-self : goal.invariant_of-self
invariant_of-self g c = record {
  says = ∥∥₁_map c.args.self.now.says (λ says tells whole. says-same (g.S.Store.seen c.args.self.now.journal.store) (g.S.Store.may_leave c.args.self.now.journal.store) c.args.self.now.journal.gate
      (g.O.Outside.made c.args.self.now.outside) (g.O.Outside.made c.take_foreign.new.self) c.take_foreign.ensures.made (says tells whole));
}
