-- Each way out of the loop, by the step that it is.
use Rattle.std.proofs.Common.{arith, []}
use Rattle.std.proofs.lemmas.Bool.{eq-eqb, ne_eqb}
use Rattle.wire_fields.specs.Reading.{read}
use Rattle.bundle7.specs.Table.{blocks}
use Rattle.bundle7.specs.Lent.{block_of}
use Rattle.bundle7.proofs.JudgingLemmas.{judges-passed, so_far-step, so_far-last, so_far-fails, so_far-end, so_far-none}
use Rattle.bundle7.proofs.judging.blocks_judged.Goals as goal

pub returns-in_err-block-clause-exact : goal.returns-in_err-block-clause-exact
returns-in_err-block-clause-exact c =
    judges-passed c.from_residual.result c.in_err-block.field-0.0 (read (blocks c.args.fragment c.args.most []) c.args.text.now c.args.at)
    c.from_residual.ensures.1
    (so_far-fails c.args.fragment c.args.text.now c.args.most c.args.at c.extensions.i c.extensions.seen c.extensions.next
    c.extensions.invariant.so_far c.in_err-block.field-0.0 c.extensions-test.true c.in_err-block.ensures.exact)

pub returns-then-block-eq-PAYLOAD-clause-exact : goal.returns-then-block-eq-PAYLOAD-clause-exact
returns-then-block-eq-PAYLOAD-clause-exact c =
    so_far-last c.args.fragment c.args.text.now c.args.most c.args.at c.extensions.i c.extensions.seen c.extensions.next
    c.extensions.invariant.so_far (block_of c.in_ok-block.block) c.in_ok-block.after c.extensions-test.true c.in_ok-block.ensures.exact
    (eq-eqb c.in_ok-block.block.lead.kind 1 c.if-block-eq-PAYLOAD.true)

pub extensions-preserved : goal.extensions-preserved
extensions-preserved c = record {
  place = record { behind = omega (arith, c.extensions.invariant.place.behind, c.in_ok-block.ensures.within.behind); within = c.in_ok-block.ensures.within.within };
  so_far = rw c.push.ensures
      (so_far-step c.args.fragment c.args.text.now c.args.most c.args.at c.extensions.i c.extensions.seen c.extensions.next
      c.extensions.invariant.so_far (block_of c.in_ok-block.block) c.in_ok-block.after c.extensions-test.true c.in_ok-block.ensures.exact
      (ne_eqb c.in_ok-block.block.lead.kind 1 c.if-block-eq-PAYLOAD.false));
}

pub returns-in_err-end-clause-exact : goal.returns-in_err-end-clause-exact
returns-in_err-end-clause-exact c =
    judges-passed c.from_residual-in_err-end.result c.in_err-end.field-0.0 (read (blocks c.args.fragment c.args.most []) c.args.text.now c.args.at)
    c.from_residual-in_err-end.ensures.1
    (so_far-none c.args.fragment c.args.text.now c.args.most c.args.at c.extensions.i c.extensions.seen c.extensions.next
    c.extensions.invariant.so_far c.in_err-end.field-0.0 c.extensions-test.false c.in_err-end.ensures.exact)

pub returns-clause-exact : goal.returns-clause-exact
returns-clause-exact c =
    so_far-end c.args.fragment c.args.text.now c.args.most c.args.at c.extensions.i c.extensions.seen c.extensions.next
    c.extensions.invariant.so_far (block_of c.in_ok-end.field-0-0) c.in_ok-end.end c.extensions-test.false c.in_ok-end.ensures.exact
