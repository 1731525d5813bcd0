use Rattle.path_world.specs.Ties.{sent_from}
use Rattle.path_world.proofs.SentLemmas.{KeptSo}
use Rattle.path_world.proofs.sent.SentLog.keep_all.Given as goal

abbrev pub invariant-keeping : goal.invariant-keeping
invariant-keeping l = KeptSo l.initial.self l.self (sent_from l.from l.yielded) l.told.items
