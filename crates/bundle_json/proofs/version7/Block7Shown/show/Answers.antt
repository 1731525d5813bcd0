use Rattle.std.proofs.Common.{codes, ◌∙◌}
use Rattle.std.proofs.lemmas.Result.{on_ok_weaker}
use Rattle.hex_text.specs.Hex.{IsBytes, encode_lower}
use Rattle.bundle_json.proofs.ObjectLemmas.{frame7-text, block7-text, after_body7, three-pieces, to-end}
use Rattle.bundle_json.proofs.version7.Block7Shown.show.Goals as goal

pub returns : goal.returns
returns c =
    let b = c.args.self.now in
    let small : IsBytes b.body = rw c.as_slice.ensures at c.in_ok-write_octets.ensures.small in
    on_ok_weaker c.write_between.result
    (λ written. three-pieces _ _ _ _ (codes "{\"body\":\"") (encode_lower b.body) (after_body7 b) _ (block7-text b small)
    c.in_ok-push_str.ensures.bytes (rw c.as_slice.ensures at c.in_ok-write_octets.ensures.written) written)
    (c.write_between.ensures (after_body7 b) (to-end _ _ (codes "{\"body\":\"") (after_body7 b) c.as_str.ensures.value (c.in_ok-frame_text.ensures ∙ frame7-text b)))
