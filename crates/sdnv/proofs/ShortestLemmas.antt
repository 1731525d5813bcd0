-- The shortest spelling: what it spells, how long it is, and that no other is as short.

use Rattle.std.proofs.Common.{◌≡◌, ℕ, zero, suc, ◌+◌, ◌-◌, ◌*◌, ◌/◌, ◌%◌, ◌^◌, ◌<◌, ◌≤◌, List, [], ◌∷◌, ◌++◌, length, get_or, refl, sym, ap, ◌∙◌, arith, lit<, append_assoc, length-append, inl, inr}
use Rattle.std.proofs.Math.Nat.{pow-suc, div-lt_iff_lt-mul}
use Rattle.std.proofs.Math.Seq.{take-append_seam}
use Rattle.std.proofs.lemmas.Nat.{div-mul-add}
use Rattle.std.proofs.lemmas.Bool.{ne_eqb, eq-eqb, cases_lt, lt-leb, le-leb}
use Rattle.std.proofs.lemmas.List.Folds.{prefix_len-append}
use Rattle.sdnv.specs.Spelling.{goes_on, high_count, IsUnended, EndsOnce, sum_of, Spells}
use Rattle.sdnv.specs.Shortest.{leading, spelling, AreOctets, IsShortest, ReadsBack}
use Rattle.sdnv.proofs.SpellingLemmas.{sum_of-push, sum_of-below}
use Rattle.sdnv.proofs.ReadingLemmas.{read_of-only}

-- ---- the groups before the last

-- nothing is left
pub leading-none : (most number : ℕ) → number ≡ 0 → leading most number ≡ []
unfolding leading
leading-none zero number none = refl
leading-none (suc most) number none = rw (eq-eqb number 0 none) refl

-- one group is left, or more
pub leading-suc : (most number : ℕ) → 0 < number
    → leading (suc most) number ≡ leading most (number / 128) ++ (number % 128 + 128) ∷ []
unfolding leading
leading-suc most number more = rw (ne_eqb number 0 (λ none. omega arith)) refl

pub leading-more : (most number : ℕ) → 0 < most → 0 < number
    → leading most number ≡ leading (most - 1) (number / 128) ++ (number % 128 + 128) ∷ []
leading-more zero number some more = absurd (omega arith)
leading-more (suc most) number some more =
    let less : suc most - 1 ≡ most = omega arith in rw less (leading-suc most number more)

-- one group less
pub fewer_groups : (most number : ℕ) → number < 128 ^ suc most → number / 128 < 128 ^ most
fewer_groups most number below = (div-lt_iff_lt-mul (lit< tt)).1 (rw (pow-suc 128 most) at below)

-- what they add up to
pub sum_of-leading : (most number : ℕ) → number < 128 ^ most → sum_of (leading most number) ≡ number
unfolding leading sum_of
sum_of-leading zero number below = omega arith
sum_of-leading (suc most) number below =
    elim (cases_lt 0 number) [
      | inl more ↦
          let rest = sum_of-leading most (number / 128) (fewer_groups most number below) in
          rw (leading-suc most number more, sum_of-push (leading most (number / 128)) (number % 128 + 128), rest) (omega arith)
      | inr none ↦
          let zero_is : number ≡ 0 = omega arith in
          rw (leading-none (suc most) number zero_is) (sym zero_is)
    ]

-- how many they are
pub length-leading : (most number : ℕ) → length (leading most number) ≤ most
unfolding leading
length-leading zero number = omega arith
length-leading (suc most) number =
    elim (cases_lt 0 number) [
      | inl more ↦
          let rest = length-leading most (number / 128) in
          rw (leading-suc most number more, length-append) (omega (arith, rest))
      | inr none ↦ rw (leading-none (suc most) number (omega arith)) (omega arith)
    ]

pub length-leading-least : (most room number : ℕ) → number < 128 ^ room → length (leading most number) ≤ room
unfolding leading
length-leading-least zero room number below = omega arith
length-leading-least (suc most) zero number below = rw (leading-none (suc most) number (omega arith)) (omega arith)
length-leading-least (suc most) (suc room) number below =
    elim (cases_lt 0 number) [
      | inl more ↦
          let rest = length-leading-least most room (number / 128) (fewer_groups room number below) in
          rw (leading-suc most number more, length-append) (omega (arith, rest))
      | inr none ↦ rw (leading-none (suc most) number (omega arith)) (omega arith)
    ]

-- ---- where a text ends

unended-push : (text : List ℕ) (octet : ℕ) → IsUnended text → 128 ≤ octet → IsUnended (text ++ octet ∷ [])
unended-push text octet unended high =
    rw (prefix_len-append goes_on text (octet ∷ []), eq-eqb (high_count text) (length text) unended, le-leb 128 octet high, length-append text (octet ∷ []))
    (omega arith)

ended-push : (text : List ℕ) (octet : ℕ) → IsUnended text → octet < 128 → EndsOnce (text ++ octet ∷ [])
ended-push text octet unended low =
    rw (prefix_len-append goes_on text (octet ∷ []), eq-eqb (high_count text) (length text) unended, lt-leb 128 octet low, length-append text (octet ∷ []))
    (omega arith)

unended-leading : (most number : ℕ) → IsUnended (leading most number)
unfolding leading
unended-leading zero number = refl
unended-leading (suc most) number =
    elim (cases_lt 0 number) [
      | inl more ↦
          rw (leading-suc most number more)
          (unended-push (leading most (number / 128)) (number % 128 + 128) (unended-leading most (number / 128)) (omega arith))
      | inr none ↦ rw (leading-none (suc most) number (omega arith)) refl
    ]

-- ---- octets

octets-push : (text : List ℕ) (octet : ℕ) → AreOctets text → octet < 256 → (i : ℕ) → get_or (text ++ octet ∷ []) i 0 < 256
octets-push [] octet fits low zero = low
octets-push [] octet fits low (suc i) = lit< tt
octets-push (x ∷ text) octet fits low zero = fits 0
octets-push (x ∷ text) octet fits low (suc i) = octets-push text octet (λ j. fits (suc j)) low i

octets-leading : (most number : ℕ) → AreOctets (leading most number)
unfolding leading
octets-leading zero number = λ i. lit< tt
octets-leading (suc most) number =
    elim (cases_lt 0 number) [
      | inl more ↦
          rw (leading-suc most number more)
          (octets-push (leading most (number / 128)) (number % 128 + 128) (octets-leading most (number / 128)) (omega arith))
      | inr none ↦ rw (leading-none (suc most) number (omega arith)) (λ i. lit< tt)
    ]

octets-spelling : (number : ℕ) → AreOctets (spelling number)
unfolding spelling
octets-spelling number = octets-push (leading 9 (number / 128)) (number % 128) (octets-leading 9 (number / 128)) (omega arith)

-- ---- the shortest spelling spells

pub length-spelling : (number : ℕ) → length (spelling number) ≡ length (leading 9 (number / 128)) + 1
unfolding spelling
length-spelling number = rw (length-append (leading 9 (number / 128)) (number % 128 ∷ [])) refl

pub spelling-spells : (number : ℕ) → number < 2 ^ 64 → Spells (spelling number) number
unfolding spelling
spelling-spells number small = record {
  ends = ended-push (leading 9 (number / 128)) (number % 128) (unended-leading 9 (number / 128)) (omega arith);
  short = omega (arith, length-spelling number, length-leading 9 (number / 128));
  value = sym (rw (sum_of-push (leading 9 (number / 128)) (number % 128), sum_of-leading 9 (number / 128) (omega arith)) (omega arith));
  small = small;
}

pub spelling-least : (number : ℕ) (other : List ℕ) → Spells other number → length (spelling number) ≤ length other
spelling-least number [] spells = absurd (omega (arith, spells.ends))
spelling-least number (x ∷ other) spells =
    let bound : number < 128 ^ suc (length other) = omega (arith, spells.value, sum_of-below (x ∷ other)) in
    omega (arith, length-spelling number, length-leading-least 9 (length other) (number / 128) (fewer_groups (length other) number bound))

-- ---- no other is as short

-- an octet with others after it goes on, and what is after it ends once
ends-cons : (x y : ℕ) (text : List ℕ) → EndsOnce (x ∷ y ∷ text) → (128 ≤ x) × EndsOnce (y ∷ text)
ends-cons x y text ends =
    elim (cases_lt x 128) [
      | inl low ↦ absurd (omega (arith, rw (lt-leb 128 x low) at ends))
      | inr high ↦ (high, omega (arith, rw (le-leb 128 x high) at ends))
    ]

ends-last : (x : ℕ) → EndsOnce (x ∷ []) → x < 128
ends-last x ends =
    elim (cases_lt x 128) [
      | inl low ↦ low
      | inr high ↦ absurd (omega (arith, rw (le-leb 128 x high) at ends))
    ]

-- two sums of as many groups are equal only where their first groups are, and the others' sums
first_group : (a b s t power : ℕ) → s < power → t < power → a * power + s ≡ b * power + t → (a ≡ b) × (s ≡ t)
first_group a b s t power small low same =
    let first : a ≡ b = sym (div-mul-add a power s small) ∙ ap (λ n. n / power) same ∙ div-mul-add b power t low in
    (first, omega (arith, rw first at same))

same_digits : (xs ys : List ℕ) → length xs ≡ length ys → sum_of xs ≡ sum_of ys → EndsOnce xs → EndsOnce ys
    → AreOctets xs → AreOctets ys → xs ≡ ys
unfolding sum_of
same_digits [] ys long sum ends_x ends_y octets_x octets_y = absurd (omega (arith, ends_x))
same_digits (x ∷ xs) [] long sum ends_x ends_y octets_x octets_y = absurd (omega (arith, ends_y))
same_digits (x ∷ []) (y ∷ []) long sum ends_x ends_y octets_x octets_y =
    let equal : x ≡ y = omega (arith, sum, ends-last x ends_x, ends-last y ends_y) in ap (λ n. n ∷ []) equal
same_digits (x ∷ []) (y ∷ z ∷ ys) long sum ends_x ends_y octets_x octets_y = absurd (omega (arith, long))
same_digits (x ∷ w ∷ xs) (y ∷ []) long sum ends_x ends_y octets_x octets_y = absurd (omega (arith, long))
same_digits (x ∷ w ∷ xs) (y ∷ z ∷ ys) long sum ends_x ends_y octets_x octets_y =
    let tails : length (w ∷ xs) ≡ length (z ∷ ys) = omega (arith, long) in
    let power : ℕ = 128 ^ length (w ∷ xs) in
    let below : sum_of (z ∷ ys) < power = rw tails (sum_of-below (z ∷ ys)) in
    let sums : (x % 128) * power + sum_of (w ∷ xs) ≡ (y % 128) * power + sum_of (z ∷ ys) = rw tails (rw tails at sum) in
    let groups = first_group (x % 128) (y % 128) (sum_of (w ∷ xs)) (sum_of (z ∷ ys)) power (sum_of-below (w ∷ xs)) below sums in
    let left = ends-cons x w xs ends_x in
    let right = ends-cons y z ys ends_y in
    let equal : x ≡ y = omega (arith, groups.0, left.0, right.0, octets_x 0, octets_y 0) in
    let rest = same_digits (w ∷ xs) (z ∷ ys) tails groups.1 left.1 right.1 (λ i. octets_x (suc i)) (λ i. octets_y (suc i)) in
    rw (equal, rest) refl

pub spelling-shortest : (number : ℕ) → number < 2 ^ 64 → IsShortest (spelling number) number
spelling-shortest number small =
    let spells = spelling-spells number small in
    record {
      spells = spells;
      least = spelling-least number;
      only = λ other fits also long.
          same_digits other (spelling number) long (sym also.value ∙ spells.value) also.ends spells.ends fits (octets-spelling number);
    }

pub spelling-again : (number : ℕ) → number < 2 ^ 64 → ReadsBack (spelling number) number
spelling-again number small rest =
    let front = take-append_seam (spelling number) rest in
    let spells = spelling-spells number small in
    read_of-only (spelling number ++ rest) number (length (spelling number)) (rw length-append (omega arith)) (rw front spells)

-- ---- the loops

-- one group more stands in front of the end
pub filled : (most number : ℕ) (octets : List ℕ) → 0 < most → 0 < number
    → leading most number ++ octets ≡ leading (most - 1) (number / 128) ++ (number % 128 + 128) ∷ octets
filled most number octets some more =
    rw (leading-more most number some more, append_assoc (leading (most - 1) (number / 128)) ((number % 128 + 128) ∷ []) octets) refl

-- there is room for a group that isn't zero
pub room_left : (most number : ℕ) → number < 128 ^ most → 0 < number → (0 < most) × (number / 128 < 128 ^ (most - 1))
room_left zero number below more = absurd (omega arith)
room_left (suc most) number below more =
    let less : suc most - 1 ≡ most = omega arith in (omega arith, rw less (fewer_groups most number below))
