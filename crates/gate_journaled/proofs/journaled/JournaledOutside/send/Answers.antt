use Rattle.std.proofs.Common.{is_err}
use Rattle.std.proofs.Math.Logic.{∥∥₁_map}
use Rattle.gate_journaled.proofs.SaysLemmas.{says-tried}
use Rattle.gate_journaled.proofs.journaled.JournaledOutside.send.Goals as goal

pub invariant_of-self : goal.invariant_of-self
invariant_of-self g c = record {
  says = ∥∥₁_map c.args.self.now.says (λ says tells whole. says-tried (g.S.Store.seen c.args.self.now.journal.store) (g.S.Store.may_leave c.args.self.now.journal.store) c.args.self.now.journal.gate
      (g.O.Outside.made c.args.self.now.outside) (g.O.Outside.made c.send.new.self) c.args.face (is_err c.send.result) c.args.datagram.now c.send.ensures.made (says tells whole));
}
