use Rattle.std.specs.Prelude.{◌-◌, ◌++◌, length}
use Rattle.ltp_session.specs.Sender.{green_pieces}
use Rattle.ltp_session.specs.Views.{datagrams_of}
use Rattle.ltp_sender.proofs.SegmentLemmas.{rest_of}
use Rattle.ltp_sender.proofs.PieceLemmas.{AreSent}
use Rattle.ltp_sender.proofs.pieces.send_green.Given as goal

abbrev pub invariant-cutting : goal.invariant-cutting
invariant-cutting l =
    AreSent l.name l.out (green_pieces (rest_of l.size l.block l.from))
    (l.initial.out ++ datagrams_of l.name (green_pieces (rest_of l.size l.block l.red)))

abbrev pub decreases-cutting : goal.decreases-cutting
decreases-cutting l = length l.block - l.from
