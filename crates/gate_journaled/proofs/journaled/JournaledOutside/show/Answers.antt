use Rattle.std.proofs.Math.Logic.{∥∥₁_map}
use Rattle.gate_journaled.proofs.SaysLemmas.{says-shows}
use Rattle.gate_journaled.proofs.journaled.JournaledOutside.show.Goals as goal

pub invariant_of-self : goal.invariant_of-self
invariant_of-self g c = record {
  says = ∥∥₁_map c.args.self.now.says (λ says tells whole. says-shows (g.S.Store.seen c.args.self.now.journal.store) (g.S.Store.may_leave c.args.self.now.journal.store) c.args.self.now.journal.gate
      (g.O.Outside.made c.args.self.now.outside) (g.O.Outside.made c.show.new.self) c.show.result c.args.text.now c.show.ensures.made (says tells whole));
}
