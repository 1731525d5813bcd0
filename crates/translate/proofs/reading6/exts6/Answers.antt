use Rattle.std.proofs.Common.{◌++◌, ◌∙◌, ap, length}
use Rattle.translate.specs.Reading6.{exts_in6}
use Rattle.translate.proofs.Blocks6Lemmas.{around, added-last}
use Rattle.translate.proofs.reading6.exts6.Goals as goal

pub returns-clause-exts : goal.returns-clause-exts
returns-clause-exts c =
    c.from_vec.ensures ∙ c.in_ok-push_exts6-2.ensures
    ∙ ap (λ es. es ++ exts_in6 c.around_payload.result.1.now) c.in_ok-push_exts6.ensures
    ∙ rw (c.in_ok-exts.ensures.items, c.around_payload.ensures.before, c.around_payload.ensures.after) (around c.args.blocks.now)

pub returns-clause-after : goal.returns-clause-after
returns-clause-after c =
    rw (c.as_slice.ensures.value, c.as_slice-stand_before.ensures.value)
    (added-last c.push_exts6.new.exts.items (exts_in6 c.around_payload.result.1.now) c.push_exts6-2.new.exts.items
    c.in_ok-push_exts6-2.ensures ∙ ap (λ bs. length (exts_in6 bs)) c.around_payload.ensures.after)
