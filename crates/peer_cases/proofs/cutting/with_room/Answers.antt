use Rattle.std.proofs.Common.{sym, ◌∙◌}
use Rattle.peer_cases.proofs.CutLemmas.{room-small}
use Rattle.peer_cases.proofs.cutting.with_room.Goals as goal

pub with_piece-requires-clause-size : goal.with_piece-requires-clause-size
with_piece-requires-clause-size c =
    room-small c.args.bounds c.args.load c.args.size (sym c.has_room.ensures ∙ c.if-has_room.true)
