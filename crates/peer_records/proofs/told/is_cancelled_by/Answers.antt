use Rattle.std.proofs.Common.{sym, ap, ◌∙◌, arith, map}
use Rattle.gate_records.specs.Ties.{cancels, left_after, cancelled_by}
use Rattle.peer_gateway.specs.Answers.{told_seen}
use Rattle.peer_records.specs.Happened.{notes_in}
use Rattle.peer_records.proofs.ToldLemmas.{walk-step, walk-found, walk-end}
use Rattle.peer_records.proofs.told.is_cancelled_by.Goals as goal

pub returns-then-cancels : goal.returns-then-cancels
returns-then-cancels c =
    walk-found c.args.is_open c.told.left c.args.face c.args.session c.args.told.now c.told.one-index c.one-item.result
    (cancelled_by c.args.is_open c.args.own c.args.face c.args.session (notes_in (map told_seen c.args.told.now))) c.told-test.true c.one-item.is
    (ap (cancels c.args.is_open c.told.left) (sym c.told_of-end.ensures) ∙ sym c.cancels.ensures ∙ c.if-cancels.true) c.told.invariant

pub told-preserved : goal.told-preserved
told-preserved c =
    walk-step c.args.is_open c.told.left c.left_after-left.result c.args.face c.args.session c.args.told.now c.told.one-index c.one-item.result
    (cancelled_by c.args.is_open c.args.own c.args.face c.args.session (notes_in (map told_seen c.args.told.now))) c.told-test.true c.one-item.is
    (ap (cancels c.args.is_open c.told.left) (sym c.told_of-end.ensures) ∙ sym c.cancels.ensures ∙ c.if-cancels.false)
    (c.left_after-left.ensures ∙ ap (left_after c.args.is_open c.told.left) c.told_of-end.ensures) c.told.invariant

pub returns : goal.returns
returns c =
    walk-end c.args.is_open c.told.left c.args.face c.args.session c.args.told.now c.told.one-index
    (cancelled_by c.args.is_open c.args.own c.args.face c.args.session (notes_in (map told_seen c.args.told.now))) (omega (arith, c.told-test.false)) c.told.invariant
