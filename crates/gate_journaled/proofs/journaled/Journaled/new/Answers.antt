use Rattle.std.proofs.lemmas.Grind.{merely}
use Rattle.gate_journaled.proofs.SaysLemmas.{says-none}
use Rattle.gate_journaled.proofs.journaled.Journaled.new.Goals as goal

pub invariant_of-result : goal.invariant_of-result
invariant_of-result g c = record {
  says = merely (λ tells whole. says-none (g.O.Outside.made c.args.outside) (g.S.Store.seen c.args.journal.store) (g.S.Store.may_leave c.args.journal.store) c.args.journal.gate c.requires);
}
