use Rattle.std.proofs.Common.{◌≡◌, ◌++◌, take}
use Rattle.ltp_world.specs.Values.{sent_from}
use Rattle.ltp_world.proofs.sent.keep.Given as goal

abbrev pub invariant-datagrams : goal.invariant-datagrams
invariant-datagrams l = l.sent.items ≡ l.initial.sent.items ++ sent_from l.from (take l.datagram-index l.datagrams)
