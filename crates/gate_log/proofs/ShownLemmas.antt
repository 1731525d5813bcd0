-- A JSON text has no control character.
use Rattle.std.proofs.Common.{◌≡◌, ℕ, suc, ◌+◌, ◌/◌, ◌%◌, ◌==◌, Bool, true, false, ◌&&◌, ◌||◌, cond, leb, ltb, List, [], ◌∷◌, ◌++◌, ℤ, pos, negsuc, decimal, refl, ap₂, arith}
use Rattle.std.specs.List.{list_all}
use Rattle.std.specs.Char.{digit_char}
use Rattle.std.specs.Fmt.{signed_decimal}
use Rattle.std.proofs.lemmas.Bool.{and_parts, le-leb, ltb-false, eqb-true}
use Rattle.json.specs.Print.{escape, escape_byte, escape_letter, quoted}
use Rattle.serde_json.specs.Data.{Num, unsigned, negative, float, Data, null, boolean, number, string, array, object, Items, no_items, item, Members, no_members, member}
use Rattle.serde_json.specs.Written.{compact_text, items_text, members_text, number_text, comma_if}
use Rattle.gate_log.proofs.TextLemmas.{is_plain, both, plain-decimal}

abbrev AreShown : List ℕ → Type 0
AreShown text = list_all (leb 32) text ≡ true

plain-shown : (text : List ℕ) → list_all is_plain text ≡ true → AreShown text
plain-shown [] plain = refl
plain-shown (octet ∷ octets) plain =
    let parts = and_parts (is_plain octet) (list_all is_plain octets) plain in
    ap₂ (λ (s t : Bool). s && t) (and_parts (leb 32 octet) _ parts.0).0 (plain-shown octets parts.1)

-- ---- escapes

glyph-shown : (low : Bool) (d : ℕ) → leb 32 (cond low (48 + d) (87 + d)) ≡ true
glyph-shown true d = le-leb 32 (48 + d) (omega arith)
glyph-shown false d = le-leb 32 (87 + d) (omega arith)

letter-shown : (q b f n r t : Bool) (x : ℕ) → (q ≡ true → leb 32 x ≡ true)
    → ltb 0 (cond q x (cond b 98 (cond f 102 (cond n 110 (cond r 114 (cond t 116 0)))))) ≡ true
    → leb 32 (cond q x (cond b 98 (cond f 102 (cond n 110 (cond r 114 (cond t 116 0)))))) ≡ true
letter-shown true b f n r t x high some = high refl
letter-shown false true f n r t x high some = refl
letter-shown false false true n r t x high some = refl
letter-shown false false false true r t x high some = refl
letter-shown false false false false true t x high some = refl
letter-shown false false false false false true x high some = refl
letter-shown false false false false false false x high some = some

byte-shown : (some low : Bool) (letter x : ℕ) → (some ≡ true → leb 32 letter ≡ true) → (low ≡ false → leb 32 x ≡ true)
    → AreShown (cond some (92 ∷ letter ∷ []) (cond low (92 ∷ 117 ∷ 48 ∷ 48 ∷ digit_char (x / 16) ∷ digit_char (x % 16) ∷ []) (x ∷ [])))
byte-shown true low letter x has high = rw (has refl) refl
byte-shown false true letter x has high = rw (glyph-shown (ltb (x / 16) 10) (x / 16), glyph-shown (ltb (x % 16) 10) (x % 16)) refl
byte-shown false false letter x has high = rw (high refl) refl

quote-shown : (a b : Bool) (x : ℕ) → (a ≡ true → x ≡ 34) → (b ≡ true → x ≡ 92) → (a || b) ≡ true → leb 32 x ≡ true
quote-shown true b x first second is = rw (first refl) refl
quote-shown false true x first second is = rw (second refl) refl
quote-shown false false x first second is = absurd (cc)

escape_byte-shown : (x : ℕ) → AreShown (escape_byte x)
unfolding escape_byte
escape_byte-shown x =
    byte-shown (ltb 0 (escape_letter x)) (ltb x 32) (escape_letter x) x
    (letter-shown ((x == 34) || (x == 92)) (x == 8) (x == 12) (x == 10) (x == 13) (x == 9) x
    (quote-shown (x == 34) (x == 92) x (eqb-true x 34) (eqb-true x 92)))
    (λ high. le-leb 32 x (ltb-false x 32 high))

escape-shown : (text : List ℕ) → AreShown (escape text)
escape-shown [] = refl
escape-shown (x ∷ xs) = both (leb 32) (escape_byte x) (escape xs) (escape_byte-shown x) (escape-shown xs)

quoted-shown : (text : List ℕ) → AreShown (quoted text)
quoted-shown text = both (leb 32) (escape text) (34 ∷ []) (escape-shown text) refl

-- ---- values

decimal-shown : (n : ℕ) → AreShown (decimal n)
decimal-shown n = plain-shown (decimal n) (plain-decimal n)

signed-shown : (z : ℤ) → AreShown (signed_decimal z)
signed-shown (pos n) = decimal-shown n
signed-shown (negsuc n) = decimal-shown (suc n)

number-shown : (n : Num) → AreShown (number_text n)
number-shown (unsigned n) = decimal-shown n
number-shown (negative z) = signed-shown z
number-shown (float x) = refl

comma-shown : (later : Bool) → AreShown (comma_if later)
comma-shown true = refl
comma-shown false = refl

boolean-shown : (b : Bool) → AreShown (compact_text (boolean b))
boolean-shown true = refl
boolean-shown false = refl

mutual
  pub value-shown : (d : Data) → AreShown (compact_text d)
  value-shown null = refl
  value-shown (boolean b) = boolean-shown b
  value-shown (number n) = number-shown n
  value-shown (string s) = quoted-shown s
  value-shown (array ds) = items-shown false ds
  value-shown (object ms) = members-shown false ms

  items-shown : (later : Bool) (ds : Items) → AreShown (items_text later ds)
  items-shown later no_items = refl
  items-shown later (item d ds) =
      both (leb 32) (comma_if later) (compact_text d ++ items_text true ds) (comma-shown later)
      (both (leb 32) (compact_text d) (items_text true ds) (value-shown d) (items-shown true ds))

  members-shown : (later : Bool) (ms : Members) → AreShown (members_text later ms)
  members-shown later no_members = refl
  members-shown later (member k d ms) =
      both (leb 32) (comma_if later) (quoted k ++ 58 ∷ (compact_text d ++ members_text true ms)) (comma-shown later)
      (both (leb 32) (quoted k) (58 ∷ (compact_text d ++ members_text true ms)) (quoted-shown k)
      (both (leb 32) (compact_text d) (members_text true ms) (value-shown d) (members-shown true ms)))
