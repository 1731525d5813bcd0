use Rattle.std.proofs.Common.{◌≡◌, ◌==◌, ◌++◌, ◌∙◌, length, true, rules}
use Rattle.std.specs.String.{string_bytes}
use Rattle.hex.specs.Hex.{encode_lower}
use Rattle.hex_text.proofs.DigitLemmas.{hex-step, hex-done}
use Rattle.hex_text.proofs.writing.write_hex.Goals as goal

pub pieces-preserved : goal.pieces-preserved
pieces-preserved c =
    hex-step c.pieces.rest.now c.split_at.result.0.now c.split_at.result.1.now (string_bytes c.pieces.text) (string_bytes c.write_piece.new.text)
    c.min.result c.split_at.ensures.front c.split_at.ensures.back c.in_ok-write_piece.ensures ∙ c.pieces.invariant

pub returns : goal.returns
returns c =
    let over : (length c.pieces.rest.now == 0) ≡ true = search rules in
    hex-done c.pieces.rest.now (string_bytes c.pieces.text) (string_bytes c.args.text.now ++ encode_lower c.args.octets.now) over c.pieces.invariant
