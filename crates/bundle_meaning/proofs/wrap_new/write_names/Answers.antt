use Rattle.std.proofs.Common.{◌∙◌}
use Rattle.bundle_meaning.proofs.NamesLemmas.{names-push}
use Rattle.bundle_meaning.proofs.wrap_new.write_names.Goals as goal

pub writing-preserved : goal.writing-preserved
writing-preserved c =
    names-push c.args.refs.now c.writing.at c.in_ok-owned.field-0 c.args.out.now.items c.writing.out.items c.write_name.new.out.items
    (rw c.len-at-end.ensures at c.writing-test.true) (c.in_ok-owned.ensures.owned ∙ c.get.ensures) c.writing.invariant
    c.in_ok-write_name.ensures
