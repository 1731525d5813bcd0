use Rattle.std.proofs.Common.{◌≡◌, ◌<◌, false, is_err, sym, ◌∙◌, rules}
use Rattle.bundle_runs.specs.Showing.{parts_due}
use Rattle.bundle_runs.proofs.ShowStepLemmas.{tells-part, showing-tell}
use Rattle.bundle_runs.proofs.show_reader.ShowReaderPartTask.tell.Goals as goal

pub invariant_of-self-else-is_err : goal.invariant_of-self-else-is_err
invariant_of-self-else-is_err c =
    let ok : is_err c.tell-more.result ≡ false = sym c.is_err.ensures.value ∙ c.if-is_err.false in
    let some : 0 < parts_due c.self.inside.standing = search rules in
    showing-tell c.self.inside.standing c.tell-more.new.self _ _ some c.tell-more.result ok c.self.invariant c.tell-more.ensures.same c.tell-more.ensures.told

pub returns-else-is_err-clause-told : goal.returns-else-is_err-clause-told
returns-else-is_err-clause-told c =
    let some : 0 < parts_due c.self.inside.standing = search rules in
    rw (← c.self.view_is)
    (tells-part c.self.inside.standing c.tell-more.new.self _ _ some c.tell-more.result c.tell-more.ensures.same c.tell-more.ensures.told
    c.tell-more.ensures.leaves)
