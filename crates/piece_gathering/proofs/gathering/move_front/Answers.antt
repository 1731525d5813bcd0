use Rattle.std.proofs.Common.{arith, ap, ◌++◌, take, drop, ◌∙◌}
use Rattle.std.proofs.lemmas.List.{drop-drop}
use Rattle.piece_gathering.proofs.FrontLemmas.{moved-more}
use Rattle.piece_gathering.proofs.gathering.move_front.Goals as goal

pub moving-preserved : goal.moving-preserved
moving-preserved c = record {
  moved = moved-more c.moving.counter c.args.pieces.now.items c.args.waiting.now.items c.move_one.new.pieces.items
      (c.move_one.ensures.moved ∙ (ap (λ front. front ++ take 1 c.moving.waiting.items) c.moving.invariant.moved
      ∙ ap (λ rest. (c.args.pieces.now.items ++ take c.moving.counter c.args.waiting.now.items) ++ take 1 rest) c.moving.invariant.left));
  left = c.move_one.ensures.left ∙ (ap (drop 1) c.moving.invariant.left ∙ drop-drop 1 c.moving.counter c.args.waiting.now.items);
  room = omega (arith, c.move_one.ensures.room, c.move_one.ensures.more, c.moving.invariant.room, c.moving-test.true);
}
