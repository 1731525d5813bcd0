use Rattle.std.proofs.Common.{drop}
use Rattle.peer_records.proofs.EndingLemmas.{SoFar}
use Rattle.peer_records.proofs.ending.ends.Given as goal

abbrev pub invariant-told : goal.invariant-told
invariant-told g l = SoFar (g.G.GateSessions.opened l.gate) (drop l.one-index l.told) l.ended.items l.held l.initial.held l.told
