use Rattle.std.proofs.Common.{ap, sym, ◌∷◌, [], ◌++◌, take, get_or, ◌∙◌}
use Rattle.std.proofs.lemmas.List.{take_more}
use Rattle.std.proofs.lemmas.List.Elements.{filter_map-append}
use Rattle.block_types.specs.Bare.{kind_left, kinds_left}
use Rattle.block_types.proofs.losing.kinds_left.Goals as goal

pub leaving-preserved : goal.leaving-preserved
leaving-preserved c =
    let at = c.leaving.ext-index in
    let item = c.ext-item.result in
    let exts = c.args.exts.now in
    c.in_ok-leave.ensures
    ∙ (ap (λ kinds. kinds ++ kinds_left (item ∷ [])) c.leaving.invariant
    ∙ (ap (λ each. kinds_left (take at exts) ++ kinds_left (each ∷ [])) c.ext-item.is
    ∙ (sym (filter_map-append kind_left (take at exts) (get_or exts at item ∷ []))
    ∙ ap kinds_left (sym (take_more exts at item c.leaving-test.true)))))
