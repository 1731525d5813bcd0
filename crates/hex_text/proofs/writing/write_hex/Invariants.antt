use Rattle.std.proofs.Common.{◌≡◌, ◌++◌, length}
use Rattle.std.specs.String.{string_bytes}
use Rattle.hex.specs.Hex.{encode_lower}
use Rattle.hex_text.proofs.writing.write_hex.Given as goal

-- what stands there and the digits of the rest are what is to stand there
abbrev pub invariant-pieces : goal.invariant-pieces
invariant-pieces l = string_bytes l.text ++ encode_lower l.rest ≡ string_bytes l.fn.text ++ encode_lower l.octets

abbrev pub decreases-pieces : goal.decreases-pieces
decreases-pieces l = length l.rest
