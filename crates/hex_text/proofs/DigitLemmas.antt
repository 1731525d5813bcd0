-- Hex digits are text, and octets that are made hex piece by piece are the hex of all.
use Rattle.std.proofs.Common.{◌≡◌, ℕ, zero, suc, ◌+◌, ◌/◌, ◌%◌, ◌<◌, ◌==◌, Bool, true, ◌&&◌, ltb, List, [], ◌∷◌, ◌++◌, length, take, drop, slice_index, codes, Result, Ok, Err, refl, sym, ap, ap₂, ◌∙◌, arith, append_assoc, append-nil}
use Rattle.std.proofs.lemmas.Bool.{ltb-true, eqb-true, and_parts}
use Rattle.std.proofs.lemmas.Str.Ascii.{IsAscii-nil}
use Rattle.std.proofs.lemmas.Str.{IsUtf8-from_ascii}
use Rattle.std.proofs.lemmas.List.{take-append-drop}
use Rattle.std.specs.Prelude.{IsOk, MatchResult}
use Rattle.std.specs.List.{list_all}
use Rattle.std.specs.Str.{IsAscii, IsUtf8}
use Rattle.hex.specs.Hex.{encode_with, encode_lower, lower_digits}
use Rattle.hex.proofs.HexLemmas.{IsAscii-encode_with}

-- ---- digits are text

-- octets below 128
abbrev pub is_low : ℕ → Bool
is_low octet = ltb octet 128

pub low-ascii : (octets : List ℕ) → list_all is_low octets ≡ true → IsAscii octets
low-ascii [] low i = IsAscii-nil i
low-ascii (octet ∷ octets) low zero = ltb-true octet 128 (and_parts (is_low octet) (list_all is_low octets) low).0
low-ascii (octet ∷ octets) low (suc i) = low-ascii octets (and_parts (is_low octet) (list_all is_low octets) low).1 i

pub hex-utf8 : (octets : List ℕ) → IsUtf8 (encode_lower octets)
hex-utf8 octets = IsUtf8-from_ascii (encode_lower octets) (IsAscii-encode_with lower_digits octets (low-ascii lower_digits refl))

-- octets that are UTF-8 are read as text
pub reads-text : {V E : Type 0} (read : Result V E) (P : V → Type 0) (Q : E → Type 0) (octets : List ℕ)
    → MatchResult read P (λ e. ¬ (IsUtf8 octets) × Q e) → IsUtf8 octets → IsOk read
reads-text (Ok text) P Q octets is utf8 = refl
reads-text (Err fault) P Q octets is utf8 = absurd (is.0 utf8)

-- ---- piece by piece

pub encode_lower-append : (xs ys : List ℕ) → encode_lower (xs ++ ys) ≡ encode_lower xs ++ encode_lower ys
unfolding encode_with
encode_lower-append [] ys = refl
encode_lower-append (x ∷ xs) ys = ap (λ s. slice_index lower_digits (x / 16) ∷ slice_index lower_digits (x % 16) ∷ s) (encode_lower-append xs ys)

-- a piece more is written, and as much less is left
pub hex-step : (rest piece more before now : List ℕ) (size : ℕ) → piece ≡ take size rest → more ≡ drop size rest
    → now ≡ before ++ encode_lower piece → now ++ encode_lower more ≡ before ++ encode_lower rest
hex-step rest piece more before now size first others is =
    ap (λ s. s ++ encode_lower more) is ∙ append_assoc before (encode_lower piece) (encode_lower more)
    ∙ ap (λ s. before ++ s) (sym (encode_lower-append piece more)
    ∙ ap encode_lower (ap₂ (λ (s t : List ℕ). s ++ t) first others ∙ take-append-drop size rest))

-- nothing is left
pub hex-done : (rest now whole : List ℕ) → (length rest == 0) ≡ true → now ++ encode_lower rest ≡ whole → now ≡ whole
unfolding encode_with
hex-done [] now whole over is = sym (append-nil now) ∙ is
hex-done (x ∷ xs) now whole over is =
    let none : length (x ∷ xs) ≡ 0 = eqb-true (length (x ∷ xs)) 0 over in absurd (omega arith)
