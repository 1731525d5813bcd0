use Rattle.fragment_lines.proofs.ReadLemmas.{room-read7}
use Rattle.fragment_lines.proofs.CutLemmas.{cut-read7, cut-unread7}
use Rattle.fragment_lines.proofs.cutting.cut7.Goals as goal

pub lines7-requires-clause-room : goal.lines7-requires-clause-room
lines7-requires-clause-room c =
    room-read7 c.args.bundle c.in-Ok.full c.requires.legal (rw c.in-Ok.is at c.in_ok-full.ensures.exact)
    (rw c.in-Ok.is at c.in_ok-full.ensures.sound)

pub returns-in-Ok-clause-said : goal.returns-in-Ok-clause-said
returns-in-Ok-clause-said c =
    cut-read7 c.args.size c.args.bundle c.in-Ok.full _ (rw c.in-Ok.is at c.in_ok-full.ensures.exact) c.lines7.ensures

pub returns-in-Err-clause-said : goal.returns-in-Err-clause-said
returns-in-Err-clause-said c =
    cut-unread7 c.args.size c.args.bundle c.in-Err.cause (rw c.in-Err.is at c.in_ok-full.ensures.exact)
