use Rattle.std.proofs.Common.{◌≡◌, ◌-◌, ◌++◌, ◌∙◌, sym, arith}
use Rattle.std.proofs.lemmas.List.{take-append-drop}
use Rattle.cells.proofs.LogLemmas.{front-size, front-fewer, front-within, held-same, laying-step, stands-end}
use Rattle.cells.proofs.log.lay_all.Goals as goal

pub overflow_sub-left : goal.overflow_sub-left
overflow_sub-left c =
    let is = held-same c.args.ranges.now (c.laying.at - 1) (record { offset = 0; size = 0 }) (omega (arith, c.laying.invariant.front.low, c.laying-test.true)) in
    omega (arith, front-size c.args.ranges.now c.args.octets.now c.laying.at c.laying.left.now _ c.laying.invariant.front c.laying-test.true is)

pub lay-requires : goal.lay-requires
lay-requires c =
    let is = held-same c.args.ranges.now (c.laying.at - 1) (record { offset = 0; size = 0 }) (omega (arith, c.laying.invariant.front.low, c.laying-test.true)) in
    omega (
      arith,
      c.laying.invariant.size,
      c.requires.reach,
      front-within c.args.ranges.now c.args.octets.now c.laying.at c.laying.left.now c.split_at.result.1.now _ c.laying.invariant.front c.laying-test.true is (omega (arith, c.split_at.ensures.back_len)),
    )

pub laying-preserved : goal.laying-preserved
laying-preserved c =
    let is = held-same c.args.ranges.now (c.laying.at - 1) (record { offset = 0; size = 0 }) (omega (arith, c.laying.invariant.front.low, c.laying-test.true)) in
    let whole = front-size c.args.ranges.now c.args.octets.now c.laying.at c.laying.left.now _ c.laying.invariant.front c.laying-test.true is in
    let fits = front-within c.args.ranges.now c.args.octets.now c.laying.at c.laying.left.now c.split_at.result.1.now _ c.laying.invariant.front c.laying-test.true is (omega (arith, c.split_at.ensures.back_len)) in
    let fewer = front-fewer c.args.ranges.now c.args.octets.now c.laying.at c.laying.left.now c.split_at.result.0.now c.split_at.result.1.now _ c.laying.invariant.front c.laying-test.true is c.split_at.ensures.front c.split_at.ensures.back in
    let parts : c.laying.left.now ≡ c.split_at.result.0.now ++ c.split_at.result.1.now = rw (c.split_at.ensures.front, c.split_at.ensures.back) (sym (take-append-drop _ c.laying.left.now)) in
    record {
      front = fewer;
      size = c.lay.auto.buffer ∙ c.laying.invariant.size;
      stands = laying-step c.args.ranges.now c.laying.at _ c.laying.left.now c.split_at.result.0.now c.split_at.result.1.now c.laying.buffer c.lay.new.buffer _
          c.laying-test.true c.laying.invariant.front.low is parts fewer.size (omega (arith, whole, c.split_at.ensures.back_len))
          (omega (arith, fits, c.laying.invariant.size, c.requires.reach)) c.lay.ensures c.laying.invariant.stands;
    }

pub returns-clause-places : goal.returns-clause-places
returns-clause-places c = stands-end c.args.ranges.now c.laying.at c.laying.left.now c.laying.buffer _ (omega (arith, c.laying-test.false)) c.laying.invariant.stands
