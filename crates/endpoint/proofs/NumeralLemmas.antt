-- Numerals: what reading the digits one by one gives, and that a text is one number's only text.

use Rattle.std.proofs.Common.{◌≡◌, ℕ, ◌+◌, ◌*◌, ◌-◌, ◌^◌, ◌<◌, Bool, true, false, ◌&&◌}
use Rattle.std.proofs.Common.{List, [], ◌∷◌, ◌++◌, length, take, drop, get_or, eqb, ltb, cond}
use Rattle.std.proofs.Common.{refl, sym, ◌∙◌, ap, Option, None, Some, arith, rules, suc, length-append}
use Rattle.std.specs.Char.{is_ascii_digit, digit_value}
use Rattle.std.specs.List.{list_all}
use Rattle.std.specs.Str.Parse.{digits_value}
use Rattle.std.proofs.lemmas.List.Folds.{list_all_at, list_all_more}
use Rattle.std.proofs.lemmas.Int.Digits.{digits_value_more}
use Rattle.std.proofs.lemmas.Str.Parse.{digits_value-take-le}
use Rattle.std.proofs.lemmas.List.{drop_all, take_rest, get_or_append_left}
use Rattle.std.proofs.lemmas.List.Sums.{position_or_len_is, passes_at_first, split_at_first}
use Rattle.std.proofs.Math.Seq.{get_or-append_seam, take-append_seam, drop-append-add}
use Rattle.std.proofs.lemmas.Bool.{ltb-true, ltb-false, lt-ltb, eqb-true, eqb-false, ne_eqb}
use Rattle.std.specs.List.{position, position_or_len}
use Rattle.std.specs.Fmt.{decimal}
use Rattle.std.proofs.lemmas.Str.Parse.{IsNumeralModel, numerals_by_value, not_in_digits}
use Rattle.std.proofs.lemmas.Fmt.{decimal_digit, decimal-digits_value, digits_decimal, digits_value-decimal, first_decimal, decimal_nonempty}
use Rattle.endpoint.specs.Numeral.{number_of, pair_of, both, is_dot, begins_as_numeral, TakesDigit}

-- ---- one digit after the other

-- an element of a list all of whose elements pass does
at_all : (xs : List ℕ) (i : ℕ) → i < length xs → list_all is_ascii_digit xs ≡ true → is_ascii_digit (get_or xs i 0) ≡ true
at_all xs i inside all = by (is_ascii_digit (get_or xs i 0)) refl
  where
    by : (b : Bool) → is_ascii_digit (get_or xs i 0) ≡ b → b ≡ true
    by true is = refl
    by false is = let fails = list_all_at is_ascii_digit xs i 0 inside is in cc

no_number : (s d l : Bool) (n : ℕ) → (d ≡ true → l ≡ true → ⊥) → cond ((s && d) && l) (Some n) None ≡ None
no_number false d l n never = refl
no_number true false l n never = refl
no_number true true false n never = refl
no_number true true true n never = absurd (never refl refl)

a_number : (s d l : Bool) (n : ℕ) → s ≡ true → d ≡ true → l ≡ true → cond ((s && d) && l) (Some n) None ≡ Some n
a_number s d l n begins digits low = rw (begins, digits, low) refl

-- an octet that the number so far cannot take after it
pub number_of-stops : (text : List ℕ) (i : ℕ) → i < length text
    → (TakesDigit (digits_value 10 (take i text)) (get_or text i 0) → ⊥) → number_of text ≡ None
unfolding number_of
number_of-stops text i inside stops =
    no_number (begins_as_numeral text) (list_all is_ascii_digit text) (ltb (digits_value 10 text) (2 ^ 64)) _
    (λ digits low. stops (
      at_all text i inside digits,
      omega (arith, ltb-true _ _ low, digits_value_more 10 text i inside, digits_value-take-le 10 text (i + 1) (omega arith)),
    ))

-- one digit more
pub digits-more : (text : List ℕ) (i n : ℕ) → i < length text → n ≡ digits_value 10 (take i text)
    → list_all is_ascii_digit (take i text) ≡ true → TakesDigit n (get_or text i 0)
    → (list_all is_ascii_digit (take (i + 1) text) ≡ true)
    × (n * 10 + digit_value (get_or text i 0) ≡ digits_value 10 (take (i + 1) text))
digits-more text i n inside value digits takes = (
  rw (list_all_more is_ascii_digit text i 0 inside, digits, takes.0) refl,
  rw (digits_value_more 10 text i inside, value) refl,
)

-- all digits were taken
pub number_of-all : (text : List ℕ) (n : ℕ) → begins_as_numeral text ≡ true
    → list_all is_ascii_digit text ≡ true → n ≡ digits_value 10 text → ltb n (2 ^ 64) ≡ true
    → number_of text ≡ Some n
unfolding number_of
number_of-all text n begins digits value low =
    rw value (a_number (begins_as_numeral text) (list_all is_ascii_digit text) (ltb (digits_value 10 text) (2 ^ 64)) _ begins digits (rw value at low))

-- a text that doesn't begin as a numeral
pub number_of-begins : (text : List ℕ) → begins_as_numeral text ≡ false → number_of text ≡ None
unfolding number_of
number_of-begins text other = rw other refl

-- ---- a pair of numbers

both_none : (one : Option ℕ) → both one None ≡ None
both_none None = refl
both_none (Some one) = refl

none_both : (other : Option ℕ) → both None other ≡ None
none_both None = refl
none_both (Some other) = refl

-- there is no dot
pub pair_of-none : (text : List ℕ) → position is_dot text ≡ None → pair_of text ≡ None
unfolding pair_of number_of
pair_of-none text is = by (ltb (position_or_len is_dot text) (length text)) refl
  where
    by : (b : Bool) → ltb (position_or_len is_dot text) (length text) ≡ b → pair_of text ≡ None
    by true inside = let found : position is_dot text ≡ Some (position_or_len is_dot text) = rw inside refl in cc
    by false past =
        let nothing : drop (position_or_len is_dot text + 1) text ≡ [] =
        drop_all (position_or_len is_dot text + 1) text (omega (arith, ltb-false _ _ past)) in
        rw nothing (both_none _)

-- the dot that it has stands between the numbers
pub pair_of-dot : (text : List ℕ) (dot : ℕ) → position is_dot text ≡ Some dot
    → pair_of text ≡ both (number_of (take dot text)) (number_of (drop (dot + 1) text))
unfolding pair_of
pair_of-dot text dot is = by (ltb (position_or_len is_dot text) (length text)) refl
  where
    by : (b : Bool) → ltb (position_or_len is_dot text) (length text) ≡ b
        → pair_of text ≡ both (number_of (take dot text)) (number_of (drop (dot + 1) text))
    by true inside =
        let found : position is_dot text ≡ Some (position_or_len is_dot text) = rw inside refl in
        let same : position_or_len is_dot text ≡ dot = cc in
        rw same refl
    by false past = let found : position is_dot text ≡ None = rw past refl in cc

-- what stands before it is no number
pub pair_of-no_first : (text : List ℕ) (dot : ℕ) → Some dot ≡ position is_dot text
    → None ≡ number_of (take dot text) → pair_of text ≡ None
pair_of-no_first text dot is one = pair_of-dot text dot (sym is) ∙ rw (← one) (none_both (number_of (drop (dot + 1) text)))

-- what stands after it is no number
pub pair_of-no_second : (text : List ℕ) (dot : ℕ) → Some dot ≡ position is_dot text
    → None ≡ number_of (take (length text - (dot + 1)) (drop (dot + 1) text)) → pair_of text ≡ None
pair_of-no_second text dot is other =
    pair_of-dot text dot (sym is) ∙ rw (← (other ∙ ap number_of (take_rest text (dot + 1)))) (both_none (number_of (take dot text)))

-- both are numbers
pub pair_of-found : (text : List ℕ) (dot n m : ℕ) → Some dot ≡ position is_dot text
    → Some n ≡ number_of (take dot text)
    → Some m ≡ number_of (take (length text - (dot + 1)) (drop (dot + 1) text)) → pair_of text ≡ Some (n, m)
pair_of-found text dot n m is one other =
    pair_of-dot text dot (sym is)
    ∙ rw (← one, ← (other ∙ ap number_of (take_rest text (dot + 1)))) refl

-- ---- a number's one text

numerals : IsNumeralModel (λ ds. list_all is_ascii_digit ds ≡ true) (digits_value 10)
numerals = numerals_by_value (λ ds. list_all is_ascii_digit ds ≡ true) (search rules)

when_number : (s d l : Bool) (v n : ℕ) → cond ((s && d) && l) (Some v) None ≡ Some n
    → (s ≡ true) × (d ≡ true) × (l ≡ true) × (v ≡ n)
when_number true true true v n is = (refl, refl, refl, cc)
when_number true true false v n is = cc
when_number true false l v n is = cc
when_number false d l v n is = cc

begins_right : (text : List ℕ) → begins_as_numeral text ≡ true
    → (0 < length text) × (get_or text 0 0 ≡ 48 → length text ≡ 1)
begins_right [] begins = cc
begins_right (octet ∷ more) begins =
    (omega arith, λ zero. omega (arith, eqb-true _ _ (rw zero at begins)))

right_begins : (text : List ℕ) → 0 < length text → (get_or text 0 0 ≡ 48 → ⊥) → begins_as_numeral text ≡ true
right_begins [] some other = absurd (omega arith)
right_begins (octet ∷ more) some other =
    let apart : eqb octet 48 ≡ false = ne_eqb octet 48 other in rw apart refl

decimal_begins : (n : ℕ) → n < 2 ^ 64 → begins_as_numeral (decimal n) ≡ true
decimal_begins n low = by (eqb n 0) refl
  where
    by : (b : Bool) → eqb n 0 ≡ b → begins_as_numeral (decimal n) ≡ true
    by true zero =
        let none : n ≡ 0 = eqb-true n 0 zero in rw (none, decimal_digit 0 (omega arith)) refl
    by false more =
        let some : 0 < n = omega (arith, eqb-false n 0 more) in
        right_begins (decimal n) (decimal_nonempty n low) (λ is. omega (arith, first_decimal n some low))

-- what is read is the number's text
pub number_of-found : (text : List ℕ) (n : ℕ) → number_of text ≡ Some n → (n < 2 ^ 64) × (text ≡ decimal n)
unfolding number_of
number_of-found text n is =
    let parts = when_number (begins_as_numeral text) (list_all is_ascii_digit text) (ltb (digits_value 10 text) (2 ^ 64)) _ n is in
    let first = begins_right text parts.0 in
    let low = ltb-true _ _ parts.2 in (
      rw (← parts.3) low,
      sym (rw (← parts.3) (decimal-digits_value numerals text parts.1 first.0 first.1 low)),
    )

-- a number's text is read as that number
pub number_of-decimal : (n : ℕ) → n < 2 ^ 64 → number_of (decimal n) ≡ Some n
unfolding number_of
number_of-decimal n low =
    let value : digits_value 10 (decimal n) ≡ n = digits_value-decimal numerals n low in
    a_number (begins_as_numeral (decimal n)) (list_all is_ascii_digit (decimal n)) (ltb (digits_value 10 (decimal n)) (2 ^ 64)) _
    (decimal_begins n low) (digits_decimal numerals n low) (rw value (lt-ltb n (2 ^ 64) low))
    ∙ ap (λ m. Some m) value

-- ---- a pair's one text

both_parts : (one other : Option ℕ) (n m : ℕ) → both one other ≡ Some (n, m) → (one ≡ Some n) × (other ≡ Some m)
both_parts None None n m is = cc
both_parts None (Some b) n m is = cc
both_parts (Some a) None n m is = cc
both_parts (Some a) (Some b) n m is = (ap first is, ap second is)
  where
    first : Option (ℕ × ℕ) → Option ℕ
    first None = None
    first (Some pair) = Some pair.0

    second : Option (ℕ × ℕ) → Option ℕ
    second None = None
    second (Some pair) = Some pair.1

-- what is read is the pair's text
pub pair_of-spelled : (text : List ℕ) (n m : ℕ) → pair_of text ≡ Some (n, m)
    → (n < 2 ^ 64) × (m < 2 ^ 64) × (text ≡ decimal n ++ (46 ∷ decimal m))
pair_of-spelled text n m is = by (ltb (position_or_len is_dot text) (length text)) refl
  where
    by : (b : Bool) → ltb (position_or_len is_dot text) (length text) ≡ b
        → (n < 2 ^ 64) × (m < 2 ^ 64) × (text ≡ decimal n ++ (46 ∷ decimal m))
    by true inside =
        let place = position_or_len is_dot text in
        let found : position is_dot text ≡ Some place = rw inside refl in
        let parts = both_parts _ _ n m (sym (pair_of-dot text place found) ∙ is) in
        let one = number_of-found (take place text) n parts.0 in
        let other = number_of-found (drop (place + 1) text) m parts.1 in
        let low : place < length text = ltb-true _ _ inside in
        let dot : get_or text place 0 ≡ 46 = eqb-true _ _ (passes_at_first is_dot text 0 low) in
        (one.0, other.0, split_at_first is_dot text 0 low ∙ rw (dot, one.1, other.1) refl)
    by false past =
        let found : position is_dot text ≡ None = rw past refl in
        let none = pair_of-none text found in
        cc

no_dot : (n k : ℕ) → n < 2 ^ 64 → k < length (decimal n) → is_dot (get_or (decimal n) k 0) ≡ false
no_dot n k low inside =
    ne_eqb _ _ (not_in_digits numerals (decimal n) 46 (digits_decimal numerals n low) (λ range. omega arith) k inside)

-- a pair's text is read as that pair
pub pair_of-decimal : (n m : ℕ) → n < 2 ^ 64 → m < 2 ^ 64 → pair_of (decimal n ++ (46 ∷ decimal m)) ≡ Some (n, m)
pair_of-decimal n m low small =
    let text = decimal n ++ (46 ∷ decimal m) in
    let long : length text ≡ length (decimal n) + suc (length (decimal m)) = length-append (decimal n) (46 ∷ decimal m) in
    let place : position_or_len is_dot text ≡ length (decimal n) =
    position_or_len_is is_dot text (length (decimal n)) 0 (omega arith)
    (λ k inside. rw (get_or_append_left (decimal n) (46 ∷ decimal m) 0 k inside) (no_dot n k low inside))
    (λ _. rw (get_or-append_seam (decimal n) 46 (decimal m) 0) refl) in
    let inside : ltb (position_or_len is_dot text) (length text) ≡ true = lt-ltb _ _ (rw place (omega arith)) in
    let found : position is_dot text ≡ Some (length (decimal n)) = rw (inside, place) refl in
    pair_of-dot text (length (decimal n)) found
    ∙ rw (
      take-append_seam (decimal n) (46 ∷ decimal m),
      drop-append-add (decimal n) (46 ∷ decimal m) 1,
      number_of-decimal n low,
      number_of-decimal m small,
    ) refl
