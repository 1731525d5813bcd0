use Rattle.std.proofs.Common.{◌≡◌, take}
use Rattle.std.specs.List.{list_all}
use Rattle.hex.specs.Hex.{is_hex_digit}
use Rattle.hex_text.proofs.reading.are_digits.Given as goal

abbrev pub invariant-digits : goal.invariant-digits
invariant-digits l = l.all ≡ list_all is_hex_digit (take l.octet-index l.text)
