use Rattle.std.proofs.Common.{◌∙◌}
use Rattle.store_traits.specs.declared.torn.Change.TheVariants as changes
use Rattle.store_traits.proofs.TornLemmas.{done-replaced, crash-replaced, elapses-to}
use Rattle.store_traits.proofs.torn.TornStoreStore.install.Goals as goal

pub invariant_of-self-in-Ok : goal.invariant_of-self-in-Ok
invariant_of-self-in-Ok c =
    let log = c.in-Ok.ensures.log in record {
      done = c.in-Ok.ensures.ok
          ∙ done-replaced c.args.self.now.first.items c.as_slice.result.now c.args.self.now.log.items c.exchange.new.log.items log.0 c.args.self.now.whole log.1 log.2;
    }

pub returns-in-Ok-clause-crash : goal.returns-in-Ok-clause-crash
returns-in-Ok-clause-crash c =
    let log = c.in-Ok.ensures.log in
    crash-replaced c.args.self.now.first.items c.args.self.now.draft.items c.args.self.now.log.items c.exchange.new.log.items log.0 c.args.self.now.whole (log.1 ∙ c.as_slice.ensures.value) log.2

pub returns-in-Ok-clause-time : goal.returns-in-Ok-clause-time
returns-in-Ok-clause-time c =
    let log = c.in-Ok.ensures.log in
    elapses-to c.args.self.now.first.items c.args.self.now.log.items c.exchange.new.log.items (changes.Replaced log.0 c.args.self.now.whole) log.2
