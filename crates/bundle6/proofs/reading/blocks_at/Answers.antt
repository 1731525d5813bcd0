-- Each way out of the loop, by the step of reading blocks that it is.
use Rattle.std.proofs.Common.{length-append, refl, ◌∙◌, arith, ◌+◌, ◌∷◌, []}
use Rattle.wire_fields.specs.Reading.{read}
use Rattle.wire_fields.specs.Words.{until}
use Rattle.wire_fields.proofs.FrontLemmas.{gives-fault}
use Rattle.bundle6.specs.Cause.{refusal}
use Rattle.bundle6.specs.Table.{next_block}
use Rattle.bundle6.proofs.BlocksLemmas.{blocks-step, blocks-last, blocks-fails, seen-more}
use Rattle.bundle6.proofs.reading.blocks_at.Goals as goal

pub returns-in_err-block-clause-exact : goal.returns-in_err-block-clause-exact
returns-in_err-block-clause-exact c =
    let all = read (until (c.args.most + 1) (next_block c.args.most c.args.part c.args.dictionary.now) []) c.args.text.now c.args.at in
    gives-fault (λ blocks. blocks) refusal c.from_residual.result c.in_err-block.field-0.0 all c.from_residual.ensures.1
    (blocks-fails c.args.most c.args.part c.args.dictionary.now c.args.text.now c.reading.found c.reading.seen c.reading.after
    (refusal c.in_err-block.field-0.0) all c.reading.invariant.paid c.reading.invariant.others
    c.in_err-block.ensures.exact c.reading.invariant.rest)

pub returns-then-last-clause-exact : goal.returns-then-last-clause-exact
returns-then-last-clause-exact c =
    let all = read (until (c.args.most + 1) (next_block c.args.most c.args.part c.args.dictionary.now) []) c.args.text.now c.args.at in
    rw c.in_ok-push.ensures.ok
    (blocks-last c.args.most c.args.part c.args.dictionary.now c.args.text.now c.reading.found c.reading.seen c.in_ok-block.block
    c.reading.after c.in_ok-block.next all c.reading.invariant.paid c.reading.invariant.others c.reading.invariant.count
    c.in_ok-block.ensures.follows (rw c.if-last.true at c.in_ok-block.ensures.exact) c.reading.invariant.rest)

pub reading-preserved : goal.reading-preserved
reading-preserved c =
    let all = read (until (c.args.most + 1) (next_block c.args.most c.args.part c.args.dictionary.now) []) c.args.text.now c.args.at in
    let follows = c.in_ok-block.ensures.follows in
    let more = seen-more c.reading.seen c.reading.found c.in_ok-block.block c.reading.invariant.paid c.reading.invariant.others in
    record {
      place = record {
        behind = omega (arith, c.reading.invariant.place.behind, c.in_ok-block.ensures.within.behind);
        within = c.in_ok-block.ensures.within.within;
      };
      paid = rw (c.with-seen.ensures, c.in_ok-push.ensures.ok) more.0;
      others = rw (c.with-seen.ensures, c.in_ok-push.ensures.ok) more.1;
      few = rw c.with-seen.ensures follows.few;
      count = rw (c.with-seen.ensures, c.in_ok-push.ensures.ok)
          (length-append c.reading.found (c.in_ok-block.block ∷ [])
          ∙ rw (follows.counted, c.reading.invariant.count) refl);
      rest = rw c.in_ok-push.ensures.ok
          (blocks-step c.args.most c.args.part c.args.dictionary.now c.args.text.now c.reading.found c.reading.seen c.in_ok-block.block
          c.reading.after c.in_ok-block.next all c.reading.invariant.paid c.reading.invariant.others c.reading.invariant.count
          follows (rw c.if-last.false at c.in_ok-block.ensures.exact) c.reading.invariant.rest);
    }
