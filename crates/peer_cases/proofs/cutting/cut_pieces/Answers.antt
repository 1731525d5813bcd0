use Rattle.peer_cases.proofs.CutLemmas.{size-short, size-placed, making-next, making-more, making-none, making-done}
use Rattle.peer_cases.proofs.cutting.cut_pieces.Goals as goal

pub returns-in_default : goal.returns-in_default
returns-in_default c =
    making-done c.args.settings c.args.to c.args.room c.args.cutter c.cutting.cutter c.cutting.pieces c.cutting.load
    c.cutting.invariant.making (rw c.in_default.is at c.in_ok-full.ensures.gives).0

pub sized_piece-requires-clause-sound : goal.sized_piece-requires-clause-sound
sized_piece-requires-clause-sound c =
    (making-next c.args.settings c.args.to c.args.room c.args.cutter c.cutting.cutter c.next_piece.new.self c.cutting.pieces c.cutting.load
    c.in-Some.full c.cutting.invariant.making (rw c.in-Some.is at c.in_ok-full.ensures.gives)).0

pub returns-in_default-with_room : goal.returns-in_default-with_room
returns-in_default-with_room c =
    making-none c.args.settings c.args.to c.args.room c.args.cutter c.cutting.cutter c.next_piece.new.self c.cutting.pieces c.cutting.load
    c.in-Some.full c.in_ok-piece.piece c.cutting.invariant.making (rw c.in-Some.is at c.in_ok-full.ensures.gives) c.in_ok-piece.ensures
    (size-short c.args.room.bounds c.cutting.load c.in_ok-piece.piece.size c.with_room.result c.with_room.ensures c.in_default-with_room.is)

pub cutting-preserved : goal.cutting-preserved
cutting-preserved c = record {
  making = making-more c.args.settings c.args.to c.args.room c.args.cutter c.cutting.cutter c.next_piece.new.self c.cutting.pieces c.cutting.load
      c.in-Some-with_room.more c.in-Some.full c.in_ok-piece.piece c.push.new.self c.cutting.invariant.making
      (rw c.in-Some.is at c.in_ok-full.ensures.gives) c.in_ok-piece.ensures
      (size-placed c.args.room.bounds c.cutting.load c.in_ok-piece.piece.size c.with_room.result c.in-Some-with_room.more c.with_room.ensures c.in-Some-with_room.is)
      c.in_ok-push.ensures.ok;
}
