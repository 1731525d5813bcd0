use Rattle.std.proofs.Common.{◌∙◌}
use Rattle.store_traits.specs.declared.torn.Change.TheVariants as changes
use Rattle.store_traits.proofs.TornLemmas.{done-synced, crash-synced, crash-none, elapses-to}
use Rattle.store_traits.proofs.torn.TornStoreStore.sync.Goals as goal

pub invariant_of-self-in-Ok : goal.invariant_of-self-in-Ok
invariant_of-self-in-Ok c =
    let log = c.in-Ok.ensures.log in record {
      done = done-synced c.args.self.now.first.items c.args.self.now.octets.items c.args.self.now.log.items c.settle.new.log.items log.0 (log.1 ∙ c.as_slice.ensures.value) log.2;
    }

pub returns-in-Ok-clause-durable : goal.returns-in-Ok-clause-durable
returns-in-Ok-clause-durable c =
    let log = c.in-Ok.ensures.log in
    crash-synced c.args.self.now.first.items c.args.self.now.octets.items c.args.self.now.log.items c.settle.new.log.items log.0 (log.1 ∙ c.as_slice.ensures.value) log.2

pub returns-in-Ok-clause-crash : goal.returns-in-Ok-clause-crash
returns-in-Ok-clause-crash c =
    let log = c.in-Ok.ensures.log in
    crash-none c.args.self.now.first.items c.args.self.now.octets.items c.args.self.now.log.items c.settle.new.log.items c.args.self.now.done
    (crash-synced c.args.self.now.first.items c.args.self.now.octets.items c.args.self.now.log.items c.settle.new.log.items log.0 (log.1 ∙ c.as_slice.ensures.value) log.2)

pub returns-in-Ok-clause-time : goal.returns-in-Ok-clause-time
returns-in-Ok-clause-time c =
    let log = c.in-Ok.ensures.log in
    elapses-to c.args.self.now.first.items c.args.self.now.log.items c.settle.new.log.items (changes.Synced log.0) log.2
