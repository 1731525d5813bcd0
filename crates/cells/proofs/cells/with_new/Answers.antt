use Rattle.std.proofs.Common.{◌≡◌, ◌∷◌, arith}
use Rattle.std.proofs.lemmas.Result.{IfOk-weaker}
use Rattle.cells.proofs.GapLemmas.{filling-start, filling-more, up_to-gap, up_to-end}
use Rattle.cells.proofs.cells.with_new.Goals as goal

pub filling-init : goal.filling-init
filling-init c =
    rw (c.into_iter-run-iterator.ensures.into_iter_gives, c.runs_from-run-items.ensures)
    (filling-start c.args.log c.args.places.now c.args.offset c.args.body.now)

pub filling-preserved : goal.filling-preserved
filling-preserved c =
    let runs : c.filling.run-iterator ≡ c.in-Some.run' ∷ c.next.new.self = c.in-Some.ensures.steps in
    rw c.max-at.ensures
    (filling-more c.args.log c.filling.log c.in_ok-log.log c.args.places.now c.args.offset c.args.body.now c.filling.at c.in-Some.run' c.next.new.self
    c.requires.places (omega arith) c.in_ok-log.ensures (rw runs at c.filling.invariant))

pub returns : goal.returns
returns c = IfOk-weaker c.with_gap-2.result _ _ (λ now is.
    let gap = up_to-gap c.args.log c.filling.log now c.args.offset c.args.body.now c.filling.at _ c.filling.invariant.so_far (omega arith) is in
    up_to-end c.args.log now c.args.offset c.args.body.now _ gap (omega arith) (omega (arith, c.requires.some)))
    c.with_gap-2.ensures
