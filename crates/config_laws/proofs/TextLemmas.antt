-- What is shown of a file is UTF-8 and short enough for a file.

use Rattle.std.proofs.Common.{◌≡◌, ℕ, zero, suc, ◌+◌, ◌*◌, ◌/◌, ◌%◌, ◌^◌, ◌<◌, ◌≤◌, Bool, true, false, not, ◌&&◌, ◌==◌, nat_lt, nat_le, cond, List, [], ◌∷◌, ◌++◌, length, get_or, codes, IsUtf8, refl, subst, inl, inr, arith, rules, append_assoc, length-append}
use Rattle.std.proofs.lemmas.Bool.{cases_Bool, and_parts, ltb-true, leb-true}
use Rattle.std.proofs.lemmas.Bool.Decides.{nat_tests}
use Rattle.std.proofs.lemmas.Fmt.{digits_decimal, length-decimal-le}
use Rattle.std.proofs.lemmas.Str.{IsUtf8-append, IsUtf8-nil, IsUtf8-take, IsUtf8-drop, IsUtf8-from_ascii, IsCharBoundary-before_ascii, IsCharBoundary-after_ascii}
use Rattle.std.proofs.lemmas.Str.Parse.{IsNumeralModel, numerals_by_value}
use Rattle.std.proofs.Math.Seq.{get_or-append_seam, take-append_seam, drop-append-add}
use Rattle.std.specs.Char.{is_ascii_digit}
use Rattle.std.specs.List.{list_all}
use Rattle.std.specs.Fmt.{decimal, digit_glyph}
use Rattle.std.specs.Str.{IsAscii, bytes_eq}
use Rattle.std.specs.Str.Parse.{digits_value}
use Rattle.toml_parser.specs.Lexical.{is_word}
use Rattle.toml_writer.specs.Text.{basic, encoded, escaped, escape_text, escape_letter, needs_escape, quotes_after}
use Rattle.toml_writer.proofs.Escapes.{needs_ascii}
use Rattle.endpoint.specs.declared.name.Endpoint.{Endpoint}
use Rattle.endpoint.specs.declared.name.Endpoint.TheVariants.{Null, Ipn, Dtn}
use Rattle.endpoint.specs.Endpoints.{IsEndpoint, is_ssp, is_visible, text_of}

-- ---- octets below 128

ascii_of : (p : ℕ → Bool) → ((c : ℕ) → p c ≡ true → c < 128) → (bs : List ℕ) → list_all p bs ≡ true → IsAscii bs
ascii_of p low [] all i = omega arith
ascii_of p low (c ∷ cs) all zero = low c (and_parts (p c) (list_all p cs) all).0
ascii_of p low (c ∷ cs) all (suc i) = ascii_of p low cs (and_parts (p c) (list_all p cs) all).1 i

pub low_utf8 : (p : ℕ → Bool) → ((c : ℕ) → p c ≡ true → c < 128) → (bs : List ℕ) → list_all p bs ≡ true → IsUtf8 bs
low_utf8 p low bs all = IsUtf8-from_ascii bs (ascii_of p low bs all)

abbrev pub is_low : ℕ → Bool
is_low c = nat_lt c 128

pub text_utf8 : (bs : List ℕ) → list_all is_low bs ≡ true → IsUtf8 bs
text_utf8 bs all = low_utf8 is_low (λ c low. ltb-true c 128 low) bs all

-- a text may be cut before and after an octet below 128
pub cut_before : (p : List ℕ) (c : ℕ) (cs : List ℕ) → IsUtf8 (p ++ c ∷ cs) → c < 128 → IsUtf8 p
cut_before p c cs utf8 low =
    let at : get_or (p ++ c ∷ cs) (length p) 0 ≡ c = get_or-append_seam p c cs 0 in
    let place = IsCharBoundary-before_ascii (p ++ c ∷ cs) (length p) (omega (arith, length-append p (c ∷ cs))) (rw at low) in
    subst IsUtf8 (take-append_seam p (c ∷ cs)) (IsUtf8-take (p ++ c ∷ cs) (length p) utf8 place)

pub cut_after : (p : List ℕ) (c : ℕ) (cs : List ℕ) → IsUtf8 (p ++ c ∷ cs) → c < 128 → IsUtf8 cs
cut_after p c cs utf8 low =
    let at : get_or (p ++ c ∷ cs) (length p) 0 ≡ c = get_or-append_seam p c cs 0 in
    let place = IsCharBoundary-after_ascii (p ++ c ∷ cs) (length p) utf8 (omega (arith, length-append p (c ∷ cs))) (rw at low) in
    subst IsUtf8 (drop-append-add p (c ∷ cs) 1) (IsUtf8-drop (p ++ c ∷ cs) (length p + 1) utf8 place)

-- ---- basic strings

glyph_low : (d : ℕ) → d < 16 → is_low (digit_glyph true d) ≡ true
glyph_low d h = grind (arith, nat_tests)

letter_low : (c : ℕ) → c < 128 → is_low (escape_letter c) ≡ true
letter_low c h = grind (arith, nat_tests)

escape_utf8 : (c : ℕ) → c < 128 → IsUtf8 (escape_text c)
escape_utf8 c h =
    elim (cases_Bool (escape_letter c == 0)) [
      | inl none ↦ rw none (text_utf8 _ (rw (glyph_low (c / 16) (omega arith), glyph_low (c % 16) (omega arith)) refl))
      | inr letter ↦ rw letter (text_utf8 _ (rw (letter_low c h) refl))
    ]

escaped_cons : (k c : ℕ) (cs : List ℕ) → escaped false k (c ∷ cs) ≡ cond (needs_escape false k c) (escape_text c) (c ∷ []) ++ escaped false (quotes_after false k c) cs
unfolding escaped
escaped_cons k c cs = refl

escaped_nil : (k : ℕ) → escaped false k [] ≡ []
unfolding escaped
escaped_nil k = refl

escaped_utf8 : (k : ℕ) (p s : List ℕ) → IsUtf8 (p ++ s) → IsUtf8 (p ++ escaped false k s)
escaped_utf8 k p [] utf8 = rw (escaped_nil k) utf8
escaped_utf8 k p (c ∷ cs) utf8 =
    let more = quotes_after false k c in
    elim (cases_Bool (needs_escape false k c)) [
      | inl needed ↦
          let low = needs_ascii false k c needed in
          let rest = escaped_utf8 more [] cs (cut_after p c cs utf8 low) in
          rw (escaped_cons k c cs, needed)
          (IsUtf8-append p (escape_text c ++ escaped false more cs) (cut_before p c cs utf8 low) (IsUtf8-append (escape_text c) (escaped false more cs) (escape_utf8 c low) rest))
      | inr plain ↦
          let same : (s : List ℕ) → (p ++ c ∷ []) ++ s ≡ p ++ c ∷ s = λ s. append_assoc p (c ∷ []) s in
          let rest = escaped_utf8 more (p ++ c ∷ []) cs (rw (same cs) utf8) in
          rw (escaped_cons k c cs, plain) (rw (same (escaped false more cs)) at rest)
    ]

escape_short : (c : ℕ) → length (escape_text c) ≤ 6
escape_short c =
    elim (cases_Bool (escape_letter c == 0)) [ inl none ↦ rw none (omega arith) | inr letter ↦ rw letter (omega arith) ]

escaped_short : (k : ℕ) (s : List ℕ) → length (escaped false k s) ≤ 6 * length s
escaped_short k [] = rw (escaped_nil k) (omega arith)
escaped_short k (c ∷ cs) =
    let rest = escaped_short (quotes_after false k c) cs in
    elim (cases_Bool (needs_escape false k c)) [
      | inl needed ↦ rw (escaped_cons k c cs, needed) (omega (arith, rest, escape_short c, length-append (escape_text c) (escaped false (quotes_after false k c) cs)))
      | inr plain ↦ rw (escaped_cons k c cs, plain) (omega (arith, rest))
    ]

-- ---- parts of a text

-- a text that is UTF-8 and has at most so many octets
pub record Part (text : List ℕ) (most : ℕ) : Type 0 where
  pub utf8 : IsUtf8 text
  pub short : length text ≤ most

pub no_part : Part [] 0
no_part = record { utf8 = IsUtf8-nil; short = omega arith }

pub joined : {a b : ℕ} (t u : List ℕ) → Part t a → Part u b → Part (t ++ u) (a + b)
joined t u one other = record {
  utf8 = IsUtf8-append t u one.utf8 other.utf8;
  short = omega (arith, length-append t u, one.short, other.short);
}

pub longer : {a : ℕ} (b : ℕ) (t : List ℕ) → Part t a → a ≤ b → Part t b
longer b t part room = record { utf8 = part.utf8; short = omega (arith, part.short) }

-- a text of octets below 128
pub word_part : (t : List ℕ) → list_all is_low t ≡ true → Part t (length t)
word_part t low = record { utf8 = text_utf8 t low; short = omega arith }

pub string_part : (s : List ℕ) → IsUtf8 s → Part (encoded basic s) (2 + 6 * length s)
string_part s utf8 = record {
  utf8 = IsUtf8-append (34 ∷ []) (escaped false 0 s ++ 34 ∷ []) (text_utf8 (34 ∷ []) refl)
      (IsUtf8-append (escaped false 0 s) (34 ∷ []) (escaped_utf8 0 [] s utf8) (text_utf8 (34 ∷ []) refl));
  short = omega (arith, length-append (escaped false 0 s) (34 ∷ []), escaped_short 0 s);
}

numerals : IsNumeralModel (λ ds. list_all is_ascii_digit ds ≡ true) (digits_value 10)
numerals = numerals_by_value (λ ds. list_all is_ascii_digit ds ≡ true) (search rules)

pub number_part : (n : ℕ) → n < 2 ^ 64 → Part (decimal n) 20
number_part n small = record {
  utf8 = low_utf8 is_ascii_digit (λ c digit. grind (arith, nat_tests)) (decimal n) (digits_decimal numerals n small);
  short = length-decimal-le 20 n (omega arith) (omega arith) small;
}

pub word_utf8 : (w : List ℕ) → list_all is_word w ≡ true → IsUtf8 w
word_utf8 w all = low_utf8 is_word (λ c word. grind (arith, nat_tests)) w all

-- ---- endpoints

middle_two : (a b d e : Bool) → (a && b && d && not e) ≡ true → (b ≡ true) × (d ≡ true)
middle_two true true true e is = (refl, refl)
middle_two true true false e is = absurd (cc)
middle_two true false d e is = absurd (cc)
middle_two false b d e is = absurd (cc)

ssp_parts : (ssp : List ℕ) → is_ssp ssp ≡ true → (length ssp ≤ 1023) × (list_all is_visible ssp ≡ true)
unfolding is_ssp
ssp_parts ssp legal =
    let parts = middle_two (nat_le 1 (length ssp)) (nat_le (length ssp) 1023) (list_all is_visible ssp) (bytes_eq ssp (codes "none")) legal in
    (leb-true (length ssp) 1023 parts.0, parts.1)

pub endpoint_part : (e : Endpoint) → IsEndpoint e → Part (text_of e) 1027
endpoint_part Null legal = longer 1027 (text_of Null) (word_part (text_of Null) refl) (omega arith)
endpoint_part (Ipn node service) legal =
    longer 1027 (text_of (Ipn node service))
    (joined (codes "ipn") _ (word_part (codes "ipn") refl)
    (joined (codes ":") _ (word_part (codes ":") refl)
    (joined (decimal node) _ (number_part node legal.0) (joined (codes ".") _ (word_part (codes ".") refl) (number_part service legal.1)))))
    (omega arith)
endpoint_part (Dtn ssp) legal =
    let (short, visible) = ssp_parts ssp legal in
    longer 1027 (text_of (Dtn ssp))
    (joined (codes "dtn") _ (word_part (codes "dtn") refl)
    (joined (codes ":") _ (word_part (codes ":") refl)
    (record { utf8 = low_utf8 is_visible (λ c seen. grind (arith, nat_tests)) ssp visible; short = short })))
    (omega arith)
