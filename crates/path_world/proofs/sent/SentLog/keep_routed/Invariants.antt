use Rattle.std.proofs.Common.{map}
use Rattle.path_world.specs.Ties.{routed_from}
use Rattle.path_world.proofs.SentLemmas.{KeptSo}
use Rattle.path_world.proofs.sent.SentLog.keep_routed.Given as goal

abbrev pub invariant-keeping : goal.invariant-keeping
invariant-keeping l = KeptSo l.initial.self l.self (map routed_from l.yielded) l.told.items
