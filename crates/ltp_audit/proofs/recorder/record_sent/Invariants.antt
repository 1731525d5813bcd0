use Rattle.std.proofs.Common.{◌≡◌, ◌++◌, map, take}
use Rattle.ltp_audit.specs.Recording.{went}
use Rattle.ltp_audit.proofs.recorder.record_sent.Given as goal

abbrev pub invariant-sent : goal.invariant-sent
invariant-sent l = l.entries.items ≡ l.initial.entries.items ++ map went (take l.datagram-index l.effects.out)
