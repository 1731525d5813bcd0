-- The sum of a block's octets, and the check at its end.

use Rattle.std.proofs.Common.{◌≡◌, ℕ, ◌-◌, ◌≤◌, ◌==◌, bit_xor, Bool, true, false, if◌then◌else◌, List, [], ◌++◌, length, take, drop, replicate, Err, inl, inr, refl, sym, ap, ◌∙◌, arith}
use Rattle.std.specs.Int.{w16, w32, to_be_bytes}
use Rattle.std.proofs.lemmas.List.{take-append-le, drop-append-le, length-drop}
use Rattle.crc_fields.specs.Crc.{take_text}
use Rattle.crc_fields.proofs.Chain.{take_text-none, take_text-append}
use Rattle.wire_fields.specs.Format.{Format, give, since, and_then}
use Rattle.wire_fields.specs.Refusal.{Stop}
use Rattle.wire_fields.specs.Reading.{read, go_on, IsOctets}
use Rattle.wire_fields.specs.Words.{exact_byte_string}
use Rattle.wire_fields.specs.Gives.{Continues}
use Rattle.wire_fields.proofs.ResultLemmas.{found, found_is, go_on_ok, go_on_err}
use Rattle.wire_fields.proofs.ContinueLemmas.{continues-deep, fails-then}
use Rattle.wire_fields.proofs.TextLemmas.{part_seam}
use Rattle.bundle7.specs.declared.fault.Cause7.{Cause7}
use Rattle.bundle7.specs.declared.fault.Cause7.TheVariants.{Crc}
use Rattle.bundle7.specs.declared.block.Lead.{Lead}
use Rattle.bundle7.specs.Check.{check16, check32, exact_octets, check_field, crc_field}
use Rattle.bundle7.specs.Judging.{judged_check}
use Rattle.bundle7.specs.Passing.{between}
use Rattle.bundle_judges.specs.declared.sum7.Sum.{Sum}
use Rattle.bundle_judges.specs.declared.sum7.Sum.TheVariants.{Unchecked, Short, Long}
use Rattle.bundle_judges.specs.Sum7.{no_octets, with_octets, check_of, check_head, check_octets}
use Rattle.bundle_judges.specs.Stand7.{IsSumOf}

-- ---- octets between two places

pub between-none : (at : ℕ) (text : List ℕ) → between at at text ≡ []
between-none at text = let none : at - at ≡ 0 = omega arith in ap (λ n. take n (drop at text)) none

pub between-longer : (from to : ℕ) (text more : List ℕ) → from ≤ to → to ≤ length text
    → between from to (text ++ more) ≡ between from to text
between-longer from to text more order within =
    let long = length-drop from text in
    ap (λ t. take (to - from) t) (drop-append-le from text more (omega (arith, order, within)))
    ∙ take-append-le (to - from) (drop from text) more (omega (arith, order, within, long))

-- ---- sums

with-none : (sum : Sum) → with_octets sum [] ≡ sum
with-none Unchecked = refl
with-none (Short r) = ap (λ n. Short n) (take_text-none 0x8408 r)
with-none (Long r) = ap (λ n. Long n) (take_text-none 0x82F63B78 r)

pub with-append : (sum : Sum) (u v : List ℕ) → with_octets (with_octets sum u) v ≡ with_octets sum (u ++ v)
with-append Unchecked u v = refl
with-append (Short r) u v = ap (λ n. Short n) (sym (take_text-append 0x8408 r u v))
with-append (Long r) u v = ap (λ n. Long n) (sym (take_text-append 0x82F63B78 r u v))

pub sum-none : (crc : ℕ) (text : List ℕ) (at : ℕ) → IsSumOf crc text at at (no_octets crc)
sum-none crc text at = sym (ap (with_octets (no_octets crc)) (between-none at text) ∙ with-none (no_octets crc))

-- the octets up to a later place too
pub sum-more : (crc : ℕ) (text w : List ℕ) (start at to : ℕ) (sum : Sum) → start ≤ at → at ≤ to → w ≡ between at to text
    → IsSumOf crc text start at sum → IsSumOf crc text start to (with_octets sum w)
sum-more crc text w start at to sum first second is so_far =
    ap (with_octets sum) is
    ∙ ap (λ s. with_octets s (between at to text)) so_far
    ∙ with-append (no_octets crc) (between start at text) (between at to text)
    ∙ ap (with_octets (no_octets crc)) (sym (part_seam text start at to first second))

pub sum-longer : (crc : ℕ) (text more : List ℕ) (start to : ℕ) (sum : Sum) → start ≤ to → to ≤ length text
    → IsSumOf crc text start to sum → IsSumOf crc (text ++ more) start to sum
sum-longer crc text more start to sum order within is =
    is ∙ ap (with_octets (no_octets crc)) (sym (between-longer start to text more order within))

-- ---- the check

-- the format of a check, by the sum of no octets
abbrev check-by : (crc start : ℕ) (sum : Sum) → Format Cause7 (Unit {0})
check-by crc start Unchecked = give tt
check-by crc start (Short r) = check_field 2 check16 start
check-by crc start (Long r) = check_field 4 check32 start

check-is : (crc start : ℕ) (text : List ℕ) (at : ℕ) → read (crc_field crc start) text at ≡ read (check-by crc start (no_octets crc)) text at
unfolding crc_field
check-is crc start text at = by (crc == 0) (crc == 1) refl refl
  where
    by : (zero one : Bool) → (crc == 0) ≡ zero → (crc == 1) ≡ one
        → read (crc_field crc start) text at ≡ read (check-by crc start (no_octets crc)) text at
    by true one is also = rw is refl
    by false true is also = rw (is, also) refl
    by false false is also = rw (is, also) refl

short-is : (block : List ℕ) → check16 block ≡ check_of (Short (take_text 0x8408 0xFFFF block))
short-is block = ap (λ n. to_be_bytes w16 (bit_xor n 0xFFFF)) (take_text-append 0x8408 0xFFFF block (replicate 2 0))

long-is : (block : List ℕ) → check32 block ≡ check_of (Long (take_text 0x82F63B78 0xFFFFFFFF block))
long-is block = ap (λ n. to_be_bytes w32 (bit_xor n 0xFFFFFFFF)) (take_text-append 0x82F63B78 0xFFFFFFFF block (replicate 4 0))

-- what was found of a field whose value is left out
pub given-found : {A B : Type 0} (f : Format Cause7 A) (b : B) (text : List ℕ) (at to : ℕ) (y : B)
    → read (and_then f (λ x. give b)) text at ≡ found y to → (x : A) × (read f text at ≡ found x to) × (b ≡ y)
given-found {A} {B} f b text at to y is =
    let (x, first, second) = go_on_ok (read f text at) (λ x. found b x.1) (y, to) is in
    let same = found_is {E = ℕ × Stop Cause7} b y x.1 to second in
    (x.0, first ∙ ap (λ n. found x.0 n) same.1, same.0)

pub given-err : {A B : Type 0} (f : Format Cause7 A) (b : B) (text : List ℕ) (at : ℕ) (s : ℕ × Stop Cause7)
    → read (and_then f (λ x. give b)) text at ≡ Err s → read f text at ≡ Err s
given-err {A} {B} f b text at s is =
    elim (go_on_err (read f text at) (λ x. found b x.1) s is) [
      | inl here ↦ here
      | inr later ↦ let no = later.2 in absurd (cc)
    ]

-- ---- the check is under way

abbrev none-by : Bool → Bool → Sum
none-by true one = Unchecked
none-by false true = Short 0xFFFF
none-by false false = Long 0xFFFFFFFF

none-is : (crc : ℕ) → no_octets crc ≡ none-by (crc == 0) (crc == 1)
none-is crc = by (crc == 0) (crc == 1)
  where
    by : (zero one : Bool) → (if zero then Unchecked else if one then Short 0xFFFF else Long 0xFFFFFFFF) ≡ none-by zero one
    by true one = refl
    by false true = refl
    by false false = refl

module _ {D : Type 0} (lead : Lead) (k : Lead → Format Cause7 D) (text : List ℕ) (start at : ℕ) where
  -- what is left of a check that began
  abbrev left-by : Sum → Format Cause7 D
  left-by none = and_then (and_then (check-by lead.crc start none) (λ check. give lead)) k

  abbrev left-after : Sum → Format Cause7 D
  left-after sum = and_then (and_then (check_octets sum) (λ octets. give lead)) k

  is-left : (t : List ℕ) (n : ℕ) → read (and_then (judged_check lead start) k) t n ≡ read (left-by (none-by (lead.crc == 0) (lead.crc == 1))) t n
  is-left t n =
      ap (λ r. go_on (go_on r (λ y. found lead y.1)) (λ y. read (k y.0) t y.1)) (check-is lead.crc start t n)
      ∙ ap (λ none. read (left-by none) t n) (none-is lead.crc)

  module _ (fits : IsOctets text) (order : start ≤ at) (within : at ≤ length text) (to : ℕ) (later : at ≤ to) (there : to ≤ length text) where
    summed : (p ones : ℕ) (more : List ℕ) → take_text p ones (between start to (text ++ more))
        ≡ take_text p (take_text p ones (between start at text)) (between at to text)
    summed p ones more =
        ap (take_text p ones) (between-longer start to text more (omega (arith, order, later)) there ∙ part_seam text start at to order later)
        ∙ take_text-append p ones (between start at text) (between at to text)

    goes-on : (zero one : Bool) (sum : Sum) → sum ≡ with_octets (none-by zero one) (between start at text) → read (check_head sum) text at ≡ found tt to
        → Continues (left-by (none-by zero one)) at (left-after (with_octets sum (between at to text))) to text
    goes-on true one sum is head more =
        let here : read (check_head Unchecked) text at ≡ found tt to = rw is at head in
        let same = (found_is {E = ℕ × Stop Cause7} tt tt at to here).1 in
        rw (is, same) refl
    goes-on false true sum is head more =
        let here : read (check_head (Short (take_text 0x8408 0xFFFF (between start at text)))) text at ≡ found tt to = rw is at head in
        let (size, first, second) = given-found (exact_byte_string 2 Crc) tt text at to tt here in
        continues-deep (exact_byte_string 2 Crc)
        (λ size. and_then (since start) (λ block. and_then (exact_octets 2 (check16 block)) (λ octets. give tt))) (λ check. give lead) k
        text at to size fits within first more
        ∙ ap (λ check. read (and_then (and_then (and_then (exact_octets 2 check) (λ octets. give tt)) (λ check. give lead)) k) (text ++ more) to)
        (short-is (between start to (text ++ more)) ∙ ap (λ n. check_of (Short n)) (summed 0x8408 0xFFFF more))
        ∙ ap (λ s. read (left-after (with_octets s (between at to text))) (text ++ more) to) (sym is)
    goes-on false false sum is head more =
        let here : read (check_head (Long (take_text 0x82F63B78 0xFFFFFFFF (between start at text)))) text at ≡ found tt to = rw is at head in
        let (size, first, second) = given-found (exact_byte_string 4 Crc) tt text at to tt here in
        continues-deep (exact_byte_string 4 Crc)
        (λ size. and_then (since start) (λ block. and_then (exact_octets 4 (check32 block)) (λ octets. give tt))) (λ check. give lead) k
        text at to size fits within first more
        ∙ ap (λ check. read (and_then (and_then (and_then (exact_octets 4 check) (λ octets. give tt)) (λ check. give lead)) k) (text ++ more) to)
        (long-is (between start to (text ++ more)) ∙ ap (λ n. check_of (Long n)) (summed 0x82F63B78 0xFFFFFFFF more))
        ∙ ap (λ s. read (left-after (with_octets s (between at to text))) (text ++ more) to) (sym is)

    pub check-continues : (sum : Sum) → IsSumOf lead.crc text start at sum → read (check_head sum) text at ≡ found tt to
        → Continues (and_then (judged_check lead start) k) at (left-after (with_octets sum (between at to text))) to text
    check-continues sum is head more =
        is-left (text ++ more) at
        ∙ goes-on (lead.crc == 0) (lead.crc == 1) sum (is ∙ ap (λ none. with_octets none (between start at text)) (none-is lead.crc)) head more

  stops : (zero one : Bool) (sum : Sum) (s : ℕ × Stop Cause7) → sum ≡ with_octets (none-by zero one) (between start at text)
      → read (check_head sum) text at ≡ Err s → read (left-by (none-by zero one)) text at ≡ Err s
  stops true one sum s is head =
      let here : read (check_head Unchecked) text at ≡ Err s = rw is at head in absurd (cc)
  stops false true sum s is head =
      let here : read (check_head (Short (take_text 0x8408 0xFFFF (between start at text)))) text at ≡ Err s = rw is at head in
      let first = given-err (exact_byte_string 2 Crc) tt text at s here in
      let rest : ℕ → Format Cause7 (Unit {0}) =
      λ size. and_then (since start) (λ block. and_then (exact_octets 2 (check16 block)) (λ octets. give tt)) in
      let field : Format Cause7 (Unit {0}) = and_then (exact_byte_string 2 Crc) rest in
      fails-then (and_then field (λ check. give lead)) k text at s
      (fails-then field (λ check. give lead) text at s (fails-then (exact_byte_string 2 Crc) rest text at s first))
  stops false false sum s is head =
      let here : read (check_head (Long (take_text 0x82F63B78 0xFFFFFFFF (between start at text)))) text at ≡ Err s = rw is at head in
      let first = given-err (exact_byte_string 4 Crc) tt text at s here in
      let rest : ℕ → Format Cause7 (Unit {0}) =
      λ size. and_then (since start) (λ block. and_then (exact_octets 4 (check32 block)) (λ octets. give tt)) in
      let field : Format Cause7 (Unit {0}) = and_then (exact_byte_string 4 Crc) rest in
      fails-then (and_then field (λ check. give lead)) k text at s
      (fails-then field (λ check. give lead) text at s (fails-then (exact_byte_string 4 Crc) rest text at s first))

  pub check-fails : (sum : Sum) (s : ℕ × Stop Cause7) → IsSumOf lead.crc text start at sum → read (check_head sum) text at ≡ Err s
      → read (and_then (judged_check lead start) k) text at ≡ Err s
  check-fails sum s is head =
      is-left text at
      ∙ stops (lead.crc == 0) (lead.crc == 1) sum s (is ∙ ap (λ none. with_octets none (between start at text)) (none-is lead.crc)) head
