-- Texts that stand in a string as they are: digits, moments, and names by numbers.
use Rattle.std.proofs.Common.{◌≡◌, ℕ, zero, suc, ◌+◌, ◌/◌, ◌%◌, ◌<◌, ◌==◌, Bool, true, false, ◌&&◌, not, leb, ltb, eqb, List, [], ◌∷◌, ◌++◌, codes, decimal, refl, ap, ap₂, ◌∙◌, arith}
use Rattle.std.specs.Prelude.{if◌then◌else◌, min}
use Rattle.std.specs.Fmt.{digits_onto, digit_glyph, digits as fmt_digits}
use Rattle.std.specs.List.{list_all}
use Rattle.std.proofs.lemmas.List.Folds.{list_all-append}
use Rattle.std.proofs.lemmas.Bool.{and_parts, not-true, leb-true, eqb-false, ne_eqb, le-leb, lt-ltb}
use Rattle.json.proofs.Printed.Strings.{escape_byte_plain}
use Rattle.moment_text.specs.Text.{digits, moment_text, text_within, day_text, time_text, last_shown}
use Rattle.moment_text.specs.Calendar.{day_after}
use Rattle.gate_log.specs.Written.{IsPlain, AreLow}

-- an octet that needs no escape
abbrev pub is_plain : ℕ → Bool
is_plain octet = leb 32 octet && (ltb octet 128 && (not (eqb octet 34) && not (eqb octet 92)))

abbrev pub ArePlain : List ℕ → Type 0
ArePlain text = list_all is_plain text ≡ true

pub both : (p : ℕ → Bool) (xs ys : List ℕ) → list_all p xs ≡ true → list_all p ys ≡ true → list_all p (xs ++ ys) ≡ true
both p xs ys first second = list_all-append p xs ys ∙ ap₂ (λ (s t : Bool). s && t) first second

pub plain-escape : (text : List ℕ) → ArePlain text → IsPlain text
plain-escape [] plain = refl
plain-escape (octet ∷ octets) plain =
    let parts = and_parts (is_plain octet) (list_all is_plain octets) plain in
    let high = and_parts (leb 32 octet) (ltb octet 128 && (not (eqb octet 34) && not (eqb octet 92))) parts.0 in
    let low = and_parts (ltb octet 128) (not (eqb octet 34) && not (eqb octet 92)) high.1 in
    let apart = and_parts (not (eqb octet 34)) (not (eqb octet 92)) low.1 in
    rw (escape_byte_plain octet (eqb-false octet 34 (not-true (eqb octet 34) apart.0)) (eqb-false octet 92 (not-true (eqb octet 92) apart.1)) (leb-true 32 octet high.0), plain-escape octets parts.1) refl

pub plain-low : (text : List ℕ) → ArePlain text → AreLow text
plain-low [] plain = refl
plain-low (octet ∷ octets) plain =
    let parts = and_parts (is_plain octet) (list_all is_plain octets) plain in
    let high = and_parts (leb 32 octet) (ltb octet 128 && (not (eqb octet 34) && not (eqb octet 92))) parts.0 in
    ap₂ (λ (s t : Bool). s && t) (and_parts (ltb octet 128) (not (eqb octet 34) && not (eqb octet 92)) high.1).0 (plain-low octets parts.1)

-- ---- digits

pub plain-digit : (n : ℕ) → n < 10 → is_plain (48 + n) ≡ true
plain-digit n low =
    rw (le-leb 32 (48 + n) (omega arith), lt-ltb (48 + n) 128 (omega arith), ne_eqb (48 + n) 34 (λ e. omega arith), ne_eqb (48 + n) 92 (λ e. omega arith)) refl

plain-last : (n : ℕ) → ArePlain ((48 + n % 10) ∷ [])
plain-last n = ap (λ (b : Bool). b && true) (plain-digit (n % 10) (omega arith))

pub plain-digits : (few number : ℕ) → ArePlain (digits few number)
unfolding digits
plain-digits zero number = refl
plain-digits (suc few) number = both is_plain (digits few (number / 10)) ((48 + number % 10) ∷ []) (plain-digits few (number / 10)) (plain-last number)

plain-glyph : (n : ℕ) → is_plain (digit_glyph false (n % 10)) ≡ true
plain-glyph n = rw (lt-ltb (n % 10) 10 (omega arith)) (plain-digit (n % 10) (omega arith))

plain-choice : (t : Bool) (xs ys : List ℕ) → ArePlain xs → ArePlain ys → ArePlain (if t then xs else ys)
plain-choice true xs ys first second = first
plain-choice false xs ys first second = second

plain-onto : (k n : ℕ) (acc : List ℕ) → ArePlain acc → ArePlain (digits_onto k 10 false n acc)
plain-onto zero n acc plain = plain
plain-onto (suc k) n acc plain =
    let more = digit_glyph false (n % 10) ∷ acc in
    let is : ArePlain more = ap₂ (λ (s t : Bool). s && t) (plain-glyph n) plain in
    plain-choice (n / 10 == 0) more (digits_onto k 10 false (n / 10) more) is (plain-onto k (n / 10) more is)

pub plain-decimal : (n : ℕ) → ArePlain (decimal n)
unfolding fmt_digits
plain-decimal n = plain-onto 64 n [] refl

-- ---- moments

plain-day : (days : ℕ) → ArePlain (day_text (day_after days))
unfolding day_text
plain-day days =
    let d = day_after days in
    both is_plain (digits 4 d.year) (codes "-" ++ (digits 2 d.month ++ (codes "-" ++ digits 2 d.day))) (plain-digits 4 d.year)
    (both is_plain (digits 2 d.month) (codes "-" ++ digits 2 d.day) (plain-digits 2 d.month) (plain-digits 2 d.day))

plain-time : (m : ℕ) → ArePlain (time_text m)
unfolding time_text
plain-time m =
    let hour = digits 2 (m / 3_600_000 % 24) in
    let minute = digits 2 (m / 60_000 % 60) in
    let second = digits 2 (m / 1000 % 60) in
    let ms = digits 3 (m % 1000) in
    both is_plain hour (codes ":" ++ (minute ++ (codes ":" ++ (second ++ (codes "." ++ ms))))) (plain-digits 2 (m / 3_600_000 % 24))
    (both is_plain minute (codes ":" ++ (second ++ (codes "." ++ ms))) (plain-digits 2 (m / 60_000 % 60))
    (both is_plain second (codes "." ++ ms) (plain-digits 2 (m / 1000 % 60)) (plain-digits 3 (m % 1000))))

plain-within : (m : ℕ) → ArePlain (text_within m)
unfolding text_within
plain-within m =
    both is_plain (day_text (day_after (m / 86_400_000))) (codes "T" ++ (time_text m ++ codes "Z")) (plain-day (m / 86_400_000))
    (both is_plain (time_text m) (codes "Z") (plain-time m) refl)

pub plain-moment : (at : ℕ) → ArePlain (moment_text at)
unfolding moment_text
plain-moment at = plain-within (min at last_shown)
