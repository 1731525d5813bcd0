use Rattle.std.specs.Prelude.{drop, ◌++◌}
use Rattle.ltp_session.specs.Views.{datagrams_of}
use Rattle.ltp_sender.specs.Segments.{plain_pieces}
use Rattle.ltp_sender.proofs.PieceLemmas.{AreSent}
use Rattle.ltp_sender.proofs.pieces.send_firsts.Given as goal

abbrev pub invariant-sending : goal.invariant-sending
invariant-sending l =
    AreSent l.name l.out (plain_pieces l.part (drop l.segment-index l.segments))
    (l.initial.out ++ datagrams_of l.name (plain_pieces l.part l.segments))
