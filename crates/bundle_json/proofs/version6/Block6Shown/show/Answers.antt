use Rattle.std.proofs.Common.{codes, false, ◌∙◌}
use Rattle.std.specs.String.{string_bytes}
use Rattle.hex_text.specs.Hex.{IsBytes, encode_lower}
use Rattle.serde_json.specs.Written.{compact_text}
use Rattle.bundle_json.specs.Json.{name, block6}
use Rattle.bundle_json.specs.Commas.{with_commas}
use Rattle.bundle_json.specs.Telling.{head_text}
use Rattle.bundle_json.proofs.ObjectLemmas.{ends, frame6-text, block6-text, five-pieces}
use Rattle.bundle_json.proofs.version6.Block6Shown.show.Goals as goal

pub returns : goal.returns
returns c =
    let b = c.args.self.now in
    let small : IsBytes b.body = rw c.as_slice.ensures at c.in_ok-write_octets.ensures.small in
    let head = c.in_ok-write_between.ensures (head_text b.flags b.kind) (c.as_str.ensures.value ∙ c.in_ok-frame_text.ensures ∙ frame6-text b.flags b.kind) in
    ends c.push_str-2.result (string_bytes c.args.text.now) (string_bytes c.write_names.new.text) (string_bytes c.push_str-2.new.self) (codes "]}")
    (compact_text (block6 b)) c.push_str-2.ensures.bytes
    (five-pieces _ _ _ _ _ (codes "{\"body\":\"") (encode_lower b.body) (head_text b.flags b.kind) (with_commas name false b.refs) (codes "]}") _ (block6-text b small)
    c.in_ok-push_str.ensures.bytes (rw c.as_slice.ensures at c.in_ok-write_octets.ensures.written) head c.in_ok-write_names.ensures)
