use Rattle.std.proofs.Common.{◌∙◌, arith}
use Rattle.store_traits.specs.declared.torn.Change.TheVariants as changes
use Rattle.store_traits.proofs.TornLemmas.{done-written, crash-wrote, elapses-to}
use Rattle.store_traits.proofs.torn.TornStoreStore.write_at.Goals as goal

pub invariant_of-self-in-Ok : goal.invariant_of-self-in-Ok
invariant_of-self-in-Ok c =
    let log = c.in-Ok.ensures.log in record {
      done = c.in-Ok.ensures.ok
          ∙ done-written c.args.self.now.first.items c.args.octets.now c.args.self.now.octets.items c.args.self.now.log.items c.write.new.log.items c.args.at log.0 (omega (arith, c.if-at-len.false, c.len.ensures)) log.1 c.args.self.now.done log.2;
    }

pub returns-in-Ok-clause-crash : goal.returns-in-Ok-clause-crash
returns-in-Ok-clause-crash c =
    let log = c.in-Ok.ensures.log in
    crash-wrote c.args.self.now.first.items c.args.octets.now c.args.self.now.log.items c.write.new.log.items c.args.at log.0 log.1 log.2

pub returns-in-Ok-clause-time : goal.returns-in-Ok-clause-time
returns-in-Ok-clause-time c =
    let log = c.in-Ok.ensures.log in
    elapses-to c.args.self.now.first.items c.args.self.now.log.items c.write.new.log.items (changes.Wrote c.args.at log.0) log.2
