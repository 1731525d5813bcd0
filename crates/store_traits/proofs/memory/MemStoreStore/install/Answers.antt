use Rattle.store_traits.proofs.MemoryLemmas.{elapses_to}
use Rattle.store_traits.proofs.memory.MemStoreStore.install.Goals as goal

pub returns-in-Ok-clause-time : goal.returns-in-Ok-clause-time
returns-in-Ok-clause-time c =
    let past = c.in-Ok.ensures.past in
    elapses_to c.args.self.now.past.items c.install.new.past.items past.0 c.args.self.now.octets.items c.install.new.file.items past.1 past.2
