-- What reading gives, by how many octets go on, and what each answer says of the text.

use Rattle.std.proofs.Common.{◌≡◌, ℕ, ◌+◌, ◌*◌, ◌%◌, ◌^◌, ◌<◌, ◌≤◌, List, ◌∷◌, length, take, get_or, refl, sym, ap, subst, Result, ◌∙◌, arith, Ok, Err, IfOk, inl, inr}
use Rattle.std.proofs.lemmas.Bool.{lt-ltb, le-ltb, leb-true, leb-false, cases_lt}
use Rattle.std.proofs.lemmas.List.{length-take-le, take_more}
use Rattle.std.proofs.lemmas.List.Sums.{prefix_len_passes, prefix_len_stops}
use Rattle.sdnv.specs.declared.fault.SdnvFault.{SdnvFault}
use Rattle.sdnv.specs.declared.fault.SdnvFault.TheVariants as faults
use Rattle.sdnv.specs.Spelling.{goes_on, high_count, EndsOnce, sum_of, Spells}
use Rattle.sdnv.specs.Reading.{judged, read_of, IsShort, IsTooLong, IsTooLarge}
use Rattle.sdnv.proofs.SpellingLemmas.{high_count-le, high_count-take, sum_of-push}

-- ---- the four answers

-- a number ends within ten octets
pub read_of-ended : (text : List ℕ) (high : ℕ) → high ≡ high_count text → high < 10 → high < length text
    → read_of text ≡ judged (sum_of (take (high + 1) text)) (high + 1)
unfolding read_of
read_of-ended text high is few there =
    rw (sym is) (rw (lt-ltb high 10 few, lt-ltb high (length text) there) refl)

-- none does, and more octets could end it
pub read_of-short : (text : List ℕ) → length text ≤ high_count text → length text < 10 → read_of text ≡ Err faults.Short
unfolding read_of
read_of-short text all few =
    let same : high_count text ≡ length text = omega (arith, high_count-le text) in
    rw same (rw (lt-ltb (length text) 10 few, le-ltb (length text) (length text) (omega arith)) refl)

-- none of the first ten does
pub read_of-long : (text : List ℕ) → 10 ≤ high_count text → read_of text ≡ Err faults.TooLong
unfolding read_of
read_of-long text many = rw (le-ltb (high_count text) 10 many) refl

-- ---- fronts that end once

-- the octets up to the first that ends a number
ends_once : (text : List ℕ) (high : ℕ) → high ≡ high_count text → high < length text → EndsOnce (take (high + 1) text)
ends_once text high is there =
    let counted = high_count-take (high + 1) text in
    let long = length-take-le (high + 1) text (omega arith) in
    omega (arith, counted, long)

-- where a front ends once, its end is the text's first
ends_at : (text : List ℕ) (octets : ℕ) → octets ≤ length text → EndsOnce (take octets text) → high_count text + 1 ≡ octets
ends_at text octets within ends =
    let counted = high_count-take octets text in
    let long = length-take-le octets text within in
    omega (arith, ends, counted, long)

-- ---- what each answer says

-- what reading gives, with what it says of the text
pub data Front (text : List ℕ) : Type 0 where
  small : (n k : ℕ) → read_of text ≡ Ok (n, k) → k ≤ length text → Spells (take k text) n → Front text
  large : read_of text ≡ Err faults.TooLarge → IsTooLarge text → Front text
  few : read_of text ≡ Err faults.Short → IsShort text → Front text
  many : read_of text ≡ Err faults.TooLong → IsTooLong text → Front text

front-ended : (text : List ℕ) (high : ℕ) → high ≡ high_count text → high < 10 → high < length text → Front text
front-ended text high is below there =
    let read = read_of-ended text high is below there in
    let number = sum_of (take (high + 1) text) in
    let long = length-take-le (high + 1) text (omega arith) in
    let ends = ends_once text high is there in
    elim (cases_lt number (2 ^ 64)) [
      | inl fits ↦ small number (high + 1) (rw (lt-ltb number (2 ^ 64) fits) at read) (omega arith)
          (record { ends = ends; short = omega (arith, long); value = refl; small = fits })
      | inr over ↦ large (rw (le-ltb number (2 ^ 64) over) at read)
          (record { octets = high + 1; within = omega arith; ends = ends; short = omega arith; large = over })
    ]

pub front_of : (text : List ℕ) → Front text
front_of text =
    elim (cases_lt (high_count text) 10) [
      | inl below ↦ elim (cases_lt (high_count text) (length text)) [
        | inl there ↦ front-ended text (high_count text) refl below there
        | inr all ↦
            let same : high_count text ≡ length text = omega (arith, high_count-le text) in
            few (read_of-short text all (omega arith)) (record { unended = same; few = omega arith })
      ]
      | inr high ↦
          let counted = high_count-take 10 text in
          let room : 10 ≤ length text = omega (arith, high_count-le text) in
          let long = length-take-le 10 text room in
          many (read_of-long text high) (record { unended = omega (arith, counted, long); many = room })
    ]

-- ---- the clauses

pub read_of-found : (text : List ℕ) → IfOk (read_of text) (λ x. (x.1 ≤ length text) × Spells (take x.1 text) x.0)
read_of-found text = elim (front_of text) [
  | small n k is within spells ↦ rw is (within, spells)
  | large is _ ↦ rw is tt
  | few is _ ↦ rw is tt
  | many is _ ↦ rw is tt
]

pub read_of-only : (text : List ℕ) (n k : ℕ) → k ≤ length text → Spells (take k text) n → read_of text ≡ Ok (n, k)
read_of-only text n k within spells =
    let at = ends_at text k within spells.ends in
    let long = length-take-le k text within in
    let read = read_of-ended text (high_count text) refl (omega (arith, long, spells.short)) (omega arith) in
    let same : judged (sum_of (take (high_count text + 1) text)) (high_count text + 1) ≡ judged (sum_of (take k text)) k = rw at refl in
    let small : sum_of (take k text) < 2 ^ 64 = omega (arith, spells.value, spells.small) in
    let fits = lt-ltb (sum_of (take k text)) (2 ^ 64) small in
    let number : judged (sum_of (take k text)) k ≡ Ok (sum_of (take k text), k) = rw fits refl in
    read ∙ same ∙ number ∙ rw (sym spells.value) refl

pub short-is : (text : List ℕ) → read_of text ≡ Err faults.Short → IsShort text
short-is text short = elim (front_of text)
    [ small n k is _ _ ↦ cc | large is _ ↦ cc | few _ fact ↦ fact | many is _ ↦ cc ]

pub is-short : (text : List ℕ) → IsShort text → read_of text ≡ Err faults.Short
is-short text short = read_of-short text (omega (arith, short.unended)) short.few

pub too_long-is : (text : List ℕ) → read_of text ≡ Err faults.TooLong → IsTooLong text
too_long-is text long = elim (front_of text)
    [ small n k is _ _ ↦ cc | large is _ ↦ cc | few is _ ↦ cc | many _ fact ↦ fact ]

pub is-too_long : (text : List ℕ) → IsTooLong text → read_of text ≡ Err faults.TooLong
is-too_long text long =
    let counted = high_count-take 10 text in
    let whole = length-take-le 10 text long.many in
    read_of-long text (omega (arith, counted, whole, long.unended))

pub too_large-is : (text : List ℕ) → read_of text ≡ Err faults.TooLarge → IsTooLarge text
too_large-is text over = elim (front_of text)
    [ small n k is _ _ ↦ cc | large _ fact ↦ fact | few is _ ↦ cc | many is _ ↦ cc ]

pub is-too_large : (text : List ℕ) → IsTooLarge text → read_of text ≡ Err faults.TooLarge
is-too_large text over =
    let at = ends_at text over.octets over.within over.ends in
    let read = read_of-ended text (high_count text) refl (omega (arith, over.short)) (omega (arith, over.within)) in
    let large : 2 ^ 64 ≤ sum_of (take (high_count text + 1) text) = rw at over.large in
    read ∙ rw (le-ltb (sum_of (take (high_count text + 1) text)) (2 ^ 64) large) refl

-- ---- the loop's step

-- an octet that goes on is one more in front
pub high_count-more : (text : List ℕ) (i : ℕ) → i < length text → i ≤ high_count text
    → 128 ≤ get_or text i 0 → i + 1 ≤ high_count text
high_count-more text i there so_far high =
    elim (cases_lt i (high_count text)) [
      | inl below ↦ omega arith
      | inr all ↦
          let is : i ≡ high_count text = omega arith in
          let stops = prefix_len_stops goes_on text 0 (omega arith) in
          let low = leb-false 128 (get_or text (high_count text) 0) stops in
          absurd (omega (arith, low, subst (λ j. 128 ≤ get_or text j 0) is high))
    ]

-- and one that doesn't is the end
pub high_count-end : (text : List ℕ) (i : ℕ) → i ≤ high_count text → get_or text i 0 < 128 → i ≡ high_count text
high_count-end text i so_far low =
    elim (cases_lt i (high_count text)) [
      | inl below ↦
          let high = leb-true 128 (get_or text i 0) (prefix_len_passes goes_on text i 0 below) in
          absurd (omega (arith, high))
      | inr all ↦ omega arith
    ]

-- the sum of one octet more
pub sum_of-more : (text : List ℕ) (i value : ℕ) → i < length text → value ≡ sum_of (take i text)
    → value * 128 + get_or text i 0 % 128 ≡ sum_of (take (i + 1) text)
sum_of-more text i value there so_far =
    rw (take_more text i 0 there, sum_of-push (take i text) (get_or text i 0), so_far) refl

-- a number of nine octets is small enough
pub judged-small : (number octets : ℕ) → number < 2 ^ 64 → judged number octets ≡ Ok (number, octets)
judged-small number octets below = rw (lt-ltb number (2 ^ 64) below) refl

-- the tenth octet decides
pub read_of-tenth : (text : List ℕ) (value : ℕ) (result : Result (ℕ × ℕ) SdnvFault) → 9 < length text → 9 ≤ high_count text
    → value ≡ sum_of (take 9 text)
    → (128 ≤ get_or text 9 0 → result ≡ Err faults.TooLong)
    → (get_or text 9 0 < 128 → result ≡ judged (value * 128 + get_or text 9 0) 10)
    → result ≡ read_of text
read_of-tenth text value result there so_far sum goes_on ends =
    elim (cases_lt (get_or text 9 0) 128) [
      | inl low ↦
          let at = high_count-end text 9 so_far low in
          let more = sum_of-more text 9 value there sum in
          let whole : value * 128 + get_or text 9 0 ≡ sum_of (take 10 text) = omega (arith, more) in
          ends low ∙ ap (λ n. judged n 10) whole ∙ sym (read_of-ended text 9 at (omega arith) there)
      | inr high ↦ goes_on high ∙ sym (read_of-long text (high_count-more text 9 there so_far high))
    ]

-- ---- one octet

pub read_of-one : (octet : ℕ) (rest : List ℕ) → octet < 128 → read_of (octet ∷ rest) ≡ Ok (octet, 1)
unfolding sum_of
read_of-one octet rest low =
    let at = high_count-end (octet ∷ rest) 0 (omega arith) low in
    let sum = sum_of-more (octet ∷ rest) 0 0 (omega arith) refl in
    let number : sum_of (take 1 (octet ∷ rest)) ≡ octet = omega (arith, sum) in
    read_of-ended (octet ∷ rest) 0 at (omega arith) (omega arith)
    ∙ ap (λ n. judged n 1) number
    ∙ judged-small octet 1 (omega arith)
