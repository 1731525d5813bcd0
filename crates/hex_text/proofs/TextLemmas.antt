-- A text of an even number of digits is hex, and no other one.
use Rattle.std.proofs.Common.{◌≡◌, ℕ, ◌%◌, Bool, true, false, List, length, is_ok, Result, Ok, Err, refl, arith}
use Rattle.std.proofs.lemmas.List.Sums.{AllPass-from_list_all, list_all-from_AllPass}
use Rattle.std.specs.List.{list_all}
use Rattle.hex.specs.Hex.{decode_of, is_hex_digit}
use Rattle.hex.specs.declared.FromHexError.{FromHexError}
use Rattle.hex.proofs.HexLemmas.{decode_of-digits, decode_of-odd}
pub use Rattle.hex.proofs.HexLemmas.{decode_of-ok}

pub even-hex : (text : List ℕ) → length text % 2 ≡ 0 → list_all is_hex_digit text ≡ is_ok (decode_of text)
even-hex text even = by_test (list_all is_hex_digit text) refl
  where
    by_result : (r : Result (List ℕ) FromHexError) → decode_of text ≡ r → list_all is_hex_digit text ≡ false → false ≡ is_ok r
    by_result (Ok bytes) is bad =
        let good : list_all is_hex_digit text ≡ true = list_all-from_AllPass is_hex_digit text (decode_of-ok text bytes is).1 in cc
    by_result (Err e) is bad = refl

    by_test : (b : Bool) → list_all is_hex_digit text ≡ b → b ≡ is_ok (decode_of text)
    by_test true all =
        let (bytes, is) = decode_of-digits text even (AllPass-from_list_all is_hex_digit text all) in
        rw is refl
    by_test false bad = by_result (decode_of text) refl bad

pub odd-hex : (text : List ℕ) → (length text % 2 ≡ 0 → ⊥) → false ≡ is_ok (decode_of text)
odd-hex text odd = rw (decode_of-odd text (omega arith)) refl
