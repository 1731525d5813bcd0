-- One block more is written, whose numbers stand first.
use Rattle.std.proofs.Common.{◌≡◌, ap, ◌∙◌, drop, length, take}
use Rattle.bundle6.proofs.WritingLemmas.{counted-step, written-step, written-end}
use Rattle.bundle6.proofs.writing.write_blocks.Goals as goal

pub loop-i-preserved : goal.loop-i-preserved
loop-i-preserved c =
    let blocks = c.args.blocks.now in
    let b = c.index-blocks-i.result in
    let rest = c.loop-i.rest.now in
    let back : c.split_at.result.1.now ≡ drop (length b.refs) rest =
    c.split_at.ensures.back ∙ ap (λ n. drop n rest) c.len.ensures in
    let front : c.split_at.result.0.now ≡ take (length b.refs) rest =
    c.split_at.ensures.front ∙ ap (λ n. take n rest) c.len.ensures in
    record {
      counted = rw back (counted-step blocks c.loop-i.i b rest c.loop-i-test.true c.index-blocks-i.is c.loop-i.invariant.counted);
      written = rw back
          (written-step blocks c.loop-i.i b rest c.loop-i.out.items c.write_block.new.out.items _ c.loop-i-test.true c.index-blocks-i.is
          (rw front at c.in_ok-write_block.ensures) c.loop-i.invariant.written);
    }

pub returns : goal.returns
returns c =
    written-end c.args.blocks.now c.loop-i.i c.loop-i.rest.now c.loop-i.out.items _ c.loop-i-test.false c.loop-i.invariant.written
