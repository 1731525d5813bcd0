-- The octets are the canonical spelling, and from that all follows.
use Rattle.std.proofs.Common.{◌++◌, ◌^◌, ◌<◌, arith, ap, ◌∙◌, length}
use Rattle.bundle6.specs.Spelling.{texts_of, rest_octets}
use Rattle.bundle6.specs.Writing.{primary_written, blocks_written}
use Rattle.bundle6.proofs.WritingLemmas.{IsWritten, canon-written, written-is}
use Rattle.bundle6.proofs.writing.encode6.Goals as goal

pub returns : goal.returns
returns c =
    let b = c.args.bundle.now in
    let numbering = c.in_ok-numbering.numbering in
    let rest = c.in_ok-rest.rest in
    let canon = canon-written b c.as_slice.result.now c.split_at.result.0.now c.split_at.result.1.now c.as_slice-2.result.now rest.items
    c.write_blocks.new.out.items
    (c.as_slice.ensures.value ∙ c.in_ok-numbering.ensures.pairs)
    (c.as_slice-2.ensures.value ∙ c.in_ok-numbering.ensures.dictionary)
    c.split_at.ensures.front c.split_at.ensures.back c.in_ok-rest.ensures
    (c.in_ok-write_blocks.ensures
    ∙ ap (λ bs. c.write_primary.new.out.items ++ blocks_written bs c.split_at.result.1.now) c.as_slice-blocks.ensures
    ∙ ap (λ front. front ++ blocks_written b.blocks c.split_at.result.1.now)
    (c.in_ok-write_primary.ensures
    ∙ ap (λ front. front ++ primary_written b.primary c.as_slice-3.result.now) c.in_ok-out.ensures.items
    ∙ ap (λ r. primary_written b.primary r) c.as_slice-3.ensures.value)) in
    let low : length (rest_octets (texts_of b) b.primary) < 2 ^ 64 = rw (← canon.1) (omega (arith, rest.ok.0, rest.ok.1, rest.small)) in
    let made : IsWritten b c.write_blocks.new.out.items =
    written-is b c.write_blocks.new.out.items c.requires low canon.0 in
    record {
      exact = c.from_vec.ensures ∙ made.exact;
      spelled = rw c.from_vec.ensures made.spelled;
      again = rw c.from_vec.ensures made.again;
    }
