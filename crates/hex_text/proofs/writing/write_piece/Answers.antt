use Rattle.std.proofs.Common.{◌≡◌, rules}
use Rattle.hex.specs.Hex.{encode_lower}
use Rattle.hex_text.proofs.DigitLemmas.{hex-utf8, reads-text}
use Rattle.hex_text.proofs.writing.write_piece.Goals as goal

pub unwrap-requires-2 : goal.unwrap-requires-2
unwrap-requires-2 c =
    let digits : c.encode_to_slice.new.output ≡ encode_lower c.args.octets.now = search rules in
    reads-text c.from_utf8.result _ _ c.encode_to_slice.new.output c.from_utf8.ensures.cases (rw digits (hex-utf8 c.args.octets.now))
