use Rattle.fragment_lines.proofs.ReadLemmas.{room-read6}
use Rattle.fragment_lines.proofs.CutLemmas.{cut-read6, cut-unread6}
use Rattle.fragment_lines.proofs.cutting.cut6.Goals as goal

pub lines6-requires-clause-room : goal.lines6-requires-clause-room
lines6-requires-clause-room c =
    room-read6 c.args.bundle c.in-Ok.full c.requires.legal (rw c.in-Ok.is at c.in_ok-full.ensures.exact)
    (rw c.in-Ok.is at c.in_ok-full.ensures.sound)

pub returns-in-Ok-clause-said : goal.returns-in-Ok-clause-said
returns-in-Ok-clause-said c =
    cut-read6 c.args.size c.args.bundle c.in-Ok.full _ (rw c.in-Ok.is at c.in_ok-full.ensures.exact) c.lines6.ensures

pub returns-in-Err-clause-said : goal.returns-in-Err-clause-said
returns-in-Err-clause-said c =
    cut-unread6 c.args.size c.args.bundle c.in-Err.cause (rw c.in-Err.is at c.in_ok-full.ensures.exact)
