use Rattle.std.proofs.Common.{codes, false, ◌∙◌}
use Rattle.std.proofs.lemmas.Result.{on_ok_weaker}
use Rattle.bundle_json.specs.Json.{block6}
use Rattle.bundle_json.specs.Commas.{with_commas}
use Rattle.bundle_json.specs.Telling.{primary_text}
use Rattle.bundle_json.proofs.ObjectLemmas.{head6-text, bundle6-text, three-pieces, to-end}
use Rattle.bundle_json.proofs.version6.write6.Goals as goal

pub returns : goal.returns
returns c =
    let b = c.args.bundle.now in
    let after = primary_text b.primary in
    on_ok_weaker c.write_between.result
    (λ written. three-pieces _ _ _ _ (codes "{\"blocks\":[") (with_commas block6 false b.blocks) after _ (bundle6-text b)
    c.in_ok-push_str.ensures.bytes (rw c.as_slice.ensures at c.in_ok-write_items.ensures.written) written)
    (c.write_between.ensures after
    (to-end _ _ (codes "{\"blocks\":[") after c.as_str.ensures.value (c.in_ok-head_text.ensures ∙ head6-text b.primary)))
