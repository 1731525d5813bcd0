use Rattle.std.proofs.Common.{arith}
use Rattle.face_room.proofs.RoomLemmas.{within-parts, kept-fits}
use Rattle.face_room.proofs.load.with_piece.Goals as goal

pub overflow_add-result : goal.overflow_add-result
overflow_add-result c =
    let within = within-parts c.args.bounds c.args.load c.requires.within in
    omega (arith, kept-fits c.args.bounds c.args.load.kept c.need.result c.requires.bounds within.kept c.need.ensures.small)

pub with_size-requires-clause-blocks : goal.with_size-requires-clause-blocks
with_size-requires-clause-blocks c =
    let within = within-parts c.args.bounds c.args.load c.requires.within in
    omega (arith, within.numbers)
