use Rattle.std.proofs.Common.{◌≡◌, ◌+◌, ◌∙◌, arith, refl, sym, take}
use Rattle.std.proofs.lemmas.List.{length-take-le}
use Rattle.sdnv.specs.Spelling.{sum_of}
use Rattle.sdnv.proofs.SpellingLemmas.{sum_of-eight, sum_of-nine}
use Rattle.sdnv.proofs.ReadingLemmas.{read_of-ended, read_of-short, read_of-tenth, judged-small, high_count-more, high_count-end, sum_of-more}
use Rattle.sdnv.proofs.reading.first_number.Goals as goal

pub loop-i-init : goal.loop-i-init
unfolding sum_of
loop-i-init c = record { high = omega arith; value = refl }

pub overflow_mul-value : goal.overflow_mul-value
overflow_mul-value c = omega (arith, sum_of-eight (take c.loop-i.i c.args.bytes.now), length-take-le c.loop-i.i c.args.bytes.now)

pub overflow_add-value : goal.overflow_add-value
overflow_add-value c = omega (arith, sum_of-eight (take c.loop-i.i c.args.bytes.now), length-take-le c.loop-i.i c.args.bytes.now)

pub returns-then-octet-lt128 : goal.returns-then-octet-lt128
returns-then-octet-lt128 c =
    let text = c.args.bytes.now in
    let at = high_count-end text c.loop-i.i c.loop-i.invariant.high c.if-octet-lt128.true in
    let sum = sum_of-more text c.loop-i.i c.loop-i.value (omega arith) c.loop-i.invariant.value in
    let read = read_of-ended text c.loop-i.i at (omega arith) (omega arith) in
    let small = judged-small (sum_of (take (c.loop-i.i + 1) text)) (c.loop-i.i + 1)
    (omega (arith, sum_of-nine (take (c.loop-i.i + 1) text), length-take-le (c.loop-i.i + 1) text)) in
    rw sum (sym (read ∙ small))

pub loop-i-preserved : goal.loop-i-preserved
loop-i-preserved c =
    let text = c.args.bytes.now in
    record {
      high = high_count-more text c.loop-i.i (omega arith) c.loop-i.invariant.high c.if-octet-lt128.false;
      value = sum_of-more text c.loop-i.i c.loop-i.value (omega arith) c.loop-i.invariant.value;
    }

pub returns-then-bytes-lt-MOST : goal.returns-then-bytes-lt-MOST
returns-then-bytes-lt-MOST c = sym (read_of-short c.args.bytes.now (omega arith) (omega arith))

pub tenth-requires : goal.tenth-requires
tenth-requires c = omega (arith, sum_of-nine (take c.loop-i.i c.args.bytes.now), length-take-le c.loop-i.i c.args.bytes.now)

pub returns : goal.returns
returns c =
    let nine : c.loop-i.i ≡ 9 = omega arith in
    read_of-tenth c.args.bytes.now c.loop-i.value c.tenth.result (omega arith) (omega arith) (rw nine at c.loop-i.invariant.value)
    c.tenth.ensures.goes_on c.tenth.ensures.ends
