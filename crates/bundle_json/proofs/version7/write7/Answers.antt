use Rattle.std.proofs.Common.{◌++◌, ◌∷◌, [], codes, false, ◌∙◌, refl}
use Rattle.std.proofs.lemmas.Result.{on_ok_weaker}
use Rattle.hex_text.specs.Hex.{IsBytes, encode_lower}
use Rattle.bundle_json.specs.Json.{block7}
use Rattle.bundle_json.specs.Commas.{with_commas}
use Rattle.bundle_json.proofs.ListLemmas.{items-last}
use Rattle.bundle_json.proofs.ObjectLemmas.{last7-text, last-ends, bundle7-text, block7-text, after7, after_body7, to-end}
use Rattle.bundle_json.proofs.version7.write7.Goals as goal

pub returns : goal.returns
returns c =
    let b = c.args.bundle.now in
    let small : IsBytes b.payload.body = rw c.as_slice-2.ensures at c.in_ok-write_octets.ensures.small in
    let blocks = items-last block7 b.exts b.payload _ _ _ _ _ (rw c.as_slice.ensures at c.in_ok-comma.ensures.written)
    (rw c.as_slice.ensures at c.in_ok-comma.ensures.comma) c.in_ok-push_str-2.ensures.bytes refl in
    on_ok_weaker c.write_between.result
    (λ written. last-ends _ _ _ _ _ _ (encode_lower b.payload.body) (after_body7 b.payload) (after7 b) _ (with_commas block7 false (b.exts ++ b.payload ∷ [])) _
    (bundle7-text b) (block7-text b.payload small) c.in_ok-push_str.ensures.bytes blocks
    c.in_ok-push_str-3.ensures.bytes (rw c.as_slice-2.ensures at c.in_ok-write_octets.ensures.written) written)
    (c.write_between.ensures (after_body7 b.payload ++ after7 b)
    (to-end _ _ (codes "{\"blocks\":[{\"body\":\"") (after_body7 b.payload ++ after7 b) c.as_str.ensures.value (c.in_ok-head_text.ensures ∙ last7-text b)))
