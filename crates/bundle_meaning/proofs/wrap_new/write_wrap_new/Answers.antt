use Rattle.std.proofs.Common.{◌∙◌}
use Rattle.bundle_meaning.proofs.SpellingLemmas.{wrap_new-written}
use Rattle.bundle_meaning.proofs.wrap_new.write_wrap_new.Goals as goal

pub returns : goal.returns
returns c =
    wrap_new-written c.args.block.now c.from_vec.result c.in_ok-out.out.items c.write_numbers.new.out.items
    c.write_names.new.out.items c.requires c.in_ok-out.ensures
    (rw (c.from.ensures, c.len.ensures) at c.in_ok-write_numbers.ensures)
    c.in_ok-write_names.ensures
    (c.from_vec.ensures ∙ rw c.as_slice.ensures at c.in_ok-extend_from_slice.ensures.items)
