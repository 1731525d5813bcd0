-- The loop over the claims of a report, which keeps no list of them.

use Rattle.std.proofs.Common.{◌≡◌, ℕ, zero, suc, ◌+◌, ◌-◌, ◌<◌, ◌≤◌, List, [], ◌∷◌, ◌++◌, drop, Option, Some, None, Result, Ok, Err, refl, sym, ap, ◌∙◌, append_assoc}
use Rattle.std.proofs.Math.Nat.{sub-zero}
use Rattle.std.proofs.lemmas.List.{append-nil, drop-drop}
use Rattle.sdnv.specs.declared.fault.SdnvFault.{SdnvFault}
use Rattle.sdnv.specs.declared.fault.SdnvFault.TheVariants as faults
use Rattle.sdnv.specs.Reading.{read_of}
use Rattle.wire_fields.specs.Refusal.{Stop}
use Rattle.wire_fields.specs.Reading.{read, look_number, ahead, named, judged, go_on}
use Rattle.wire_fields.specs.Words.{needs, any_number, repeated}
use Rattle.wire_fields.specs.Gives.{Fails}
use Rattle.wire_fields.proofs.ResultLemmas.{found_is, found}
use Rattle.wire_fields.proofs.GroupLemmas.{fails-on, repeated-step, repeated-fails, repeated-end}
use Rattle.ltp_segment.specs.declared.fault.SegmentCause.{SegmentCause}
use Rattle.ltp_segment.specs.declared.fault.SegmentCause.TheVariants as causes
use Rattle.ltp_segment.specs.declared.segment.Claim.{Claim}
use Rattle.ltp_segment.specs.Claims.{parted, front_number, front_claim, claims_in}
use Rattle.ltp_segment.specs.Reports.{end_from, is_claim, claim_size, claim_after, next_claim, claims_of}

-- ---- what the iterator finds is what was read

-- a number that was read at a place stands at the front from there on
number-parted : (text : List ℕ) (at n to : ℕ) (r : Result (ℕ × ℕ) SdnvFault)
    → named {C = SegmentCause} at causes.Number (ahead at (look_number r)) ≡ found n to → parted (drop at text) r ≡ Some (n, drop to text)
number-parted text at n to (Ok x) is =
    let parts = found_is x.0 n (at + x.1) to is in
    rw (parts.0, drop-drop x.1 at text, parts.1) refl
number-parted text at n to (Err faults.Short) is = cc
number-parted text at n to (Err faults.TooLong) is = cc
number-parted text at n to (Err faults.TooLarge) is = cc

front_number-read : (text : List ℕ) (at n to : ℕ) → read (any_number causes.Number) text at ≡ found n to
    → front_number (drop at text) ≡ Some (n, drop to text)
unfolding front_number
front_number-read text at n to is = number-parted text at n to (read_of (drop at text)) is

-- a value under conditions is the value
judged_ok : {A : Type 0} (at : ℕ) (o : Option SegmentCause) (x : A × ℕ) (y : A) (to : ℕ) → judged at o x ≡ found y to → found {E = ℕ × Stop SegmentCause} x.0 x.1 ≡ found y to
judged_ok at None x y to is = is
judged_ok at (Some cause) x y to is = cc

under_conditions : (at : ℕ) (conditions : ℕ → Option SegmentCause) (r : Result (ℕ × ℕ) (ℕ × Stop SegmentCause)) (n to : ℕ)
    → go_on r (λ x. judged at (conditions x.0) x) ≡ found n to → r ≡ found n to
under_conditions at conditions (Ok x) n to is = judged_ok at (conditions x.0) x n to is
under_conditions at conditions (Err e) n to is = cc

-- a claim is an offset and a length
record TwoNumbers (first : Result (ℕ × ℕ) (ℕ × Stop SegmentCause)) (second : ℕ × ℕ → Result (ℕ × ℕ) (ℕ × Stop SegmentCause)) (claim : Claim) (to : ℕ) : Type 0 where
  offset : ℕ
  between : ℕ
  size : ℕ
  one : first ≡ found offset between
  two : second (offset, between) ≡ found size to
  made : record { offset = offset; length = size } ≡ claim

with_offset : (o : ℕ × ℕ) (s : Result (ℕ × ℕ) (ℕ × Stop SegmentCause)) (second : ℕ × ℕ → Result (ℕ × ℕ) (ℕ × Stop SegmentCause)) (claim : Claim) (to : ℕ)
    → s ≡ second o → go_on s (λ n. Ok (record { offset = o.0; length = n.0 }, n.1)) ≡ found {E = ℕ × Stop SegmentCause} claim to → TwoNumbers (Ok o) second claim to
with_offset o (Ok n) second claim to same is =
    let parts = found_is (record { offset = o.0; length = n.0 }) claim n.1 to is in
    record { offset = o.0; between = o.1; size = n.0; one = refl; two = sym same ∙ ap (λ k. Ok (n.0, k)) parts.1; made = parts.0 }
with_offset o (Err e) second claim to same is = absurd (cc)

two_numbers : (r : Result (ℕ × ℕ) (ℕ × Stop SegmentCause)) (second : ℕ × ℕ → Result (ℕ × ℕ) (ℕ × Stop SegmentCause)) (claim : Claim) (to : ℕ)
    → go_on r (λ o. go_on (second o) (λ n. Ok (record { offset = o.0; length = n.0 }, n.1))) ≡ found claim to → TwoNumbers r second claim to
two_numbers (Ok o) second claim to is = with_offset o (second o) second claim to refl is
two_numbers (Err e) second claim to is = absurd (cc)

-- two numbers one after the other stand at the front as a claim
front_claim-numbers : (text : List ℕ) (at offset between size to : ℕ) → read (any_number causes.Number) text at ≡ found offset between
    → read (any_number causes.Number) text between ≡ found size to
    → front_claim (drop at text) ≡ Some (record { offset = offset; length = size }, drop to text)
unfolding front_claim
front_claim-numbers text at offset between size to first second =
    rw (front_number-read text at offset between first) (rw (front_number-read text between size to second) refl)

front_claim-read : (most end : ℕ) (text : List ℕ) (at : ℕ) (claim : Claim) (to : ℕ)
    → read (claim_after most end) text at ≡ found claim to → front_claim (drop at text) ≡ Some (claim, drop to text)
unfolding claim_after
front_claim-read most end text at claim to is =
    let parts = two_numbers (read (any_number causes.Number) text at) (λ o. read (claim_size most end o.0) text o.1) claim to is in
    let second = under_conditions parts.between (λ n. needs (is_claim most end parts.offset n) causes.Claim)
    (read (any_number causes.Number) text parts.between) parts.size to parts.two in
    rw (sym parts.made) (front_claim-numbers text at parts.offset parts.between parts.size to parts.one second)

-- one claim more was read, as a list
record OneMore (r : Result (Claim × ℕ) (ℕ × Stop SegmentCause)) (earlier later : List Claim) (to : ℕ) : Type 0 where
  claim : Claim
  one : r ≡ found claim to
  made : earlier ++ claim ∷ [] ≡ later

one_more : (r : Result (Claim × ℕ) (ℕ × Stop SegmentCause)) (earlier later : List Claim) (to : ℕ)
    → go_on r (λ x. Ok (earlier ++ x.0 ∷ [], x.1)) ≡ found later to → OneMore r earlier later to
one_more (Ok x) earlier later to is =
    let parts = found_is (earlier ++ x.0 ∷ []) later x.1 to is in
    record { claim = x.0; one = ap (λ k. Ok (x.0, k)) parts.1; made = parts.0 }
one_more (Err e) earlier later to is = absurd (cc)

-- the first of two steps
record Stepped {A B : Type 0} (r : Result (A × ℕ) (ℕ × Stop SegmentCause)) (f : A × ℕ → Result B (ℕ × Stop SegmentCause)) (y : B) : Type 0 where
  value : A
  to : ℕ
  first : r ≡ found value to
  second : f (value, to) ≡ Ok y

stepped : {A B : Type 0} (r : Result (A × ℕ) (ℕ × Stop SegmentCause)) (f : A × ℕ → Result B (ℕ × Stop SegmentCause)) (y : B) → go_on r f ≡ Ok y → Stepped r f y
stepped (Ok x) f y is = record { value = x.0; to = x.1; first = refl; second = is }
stepped (Err e) f y is = absurd (cc)

-- the claims that were read are those that stand there one after the other
pub claims_in-read : (count most : ℕ) (earlier all : List Claim) (text : List ℕ) (at to : ℕ)
    → read (repeated count (next_claim most) earlier) text at ≡ found all to → earlier ++ claims_in count (drop at text) ≡ all
unfolding claims_in next_claim
claims_in-read zero most earlier all text at to is = append-nil earlier ∙ (found_is earlier all at to is).0
claims_in-read (suc count) most earlier all text at to is =
    let step = stepped (read (next_claim most earlier) text at) (λ x. read (repeated count (next_claim most) x.0) text x.1) (all, to) is in
    let more = one_more (read (claim_after most (end_from 0 earlier)) text at) earlier step.value step.to step.first in
    let front = front_claim-read most (end_from 0 earlier) text at more.claim step.to more.one in
    let rest = claims_in-read count most step.value all text step.to to step.second in
    rw front (sym (append_assoc earlier (more.claim ∷ []) (claims_in count (drop step.to text))) ∙ rw more.made rest)

-- ---- the loop

-- after so many claims, the last of which ends there, what is left to read gives what all of it gives
pub record SoFar (count passed most end : ℕ) (text : List ℕ) (after at : ℕ) : Type 0 where
  pub earlier : List Claim
  pub ends : end_from 0 earlier ≡ end
  pub left : read (repeated (count - passed) (next_claim most) earlier) text after ≡ read (claims_of count most) text at

pub so_far-start : (count most : ℕ) (text : List ℕ) (at : ℕ) → SoFar count 0 most 0 text at at
unfolding claims_of
so_far-start count most text at = record { earlier = []; ends = refl; left = ap (λ n. read (repeated n (next_claim most) []) text at) (sub-zero count) }

pub end_from-push : (end : ℕ) (earlier : List Claim) (claim : Claim) → end_from end (earlier ++ claim ∷ []) ≡ claim.offset + claim.length
end_from-push end [] claim = refl
end_from-push end (first ∷ earlier) claim = end_from-push (first.offset + first.length) earlier claim

-- one more was read
pub so_far-more : (count passed most end : ℕ) (text : List ℕ) (after at : ℕ) (claim : Claim) (next : ℕ) → passed < count
    → SoFar count passed most end text after at → read (claim_after most end) text after ≡ found claim next
    → SoFar count (passed + 1) most (claim.offset + claim.length) text next at
unfolding next_claim
so_far-more count passed most end text after at claim next more so_far is =
    let one : read (claim_after most (end_from 0 so_far.earlier)) text after ≡ found claim next = rw so_far.ends is in
    let read_on : read (next_claim most so_far.earlier) text after ≡ Ok (so_far.earlier ++ claim ∷ [], next) = rw one refl in
    record {
      earlier = so_far.earlier ++ claim ∷ [];
      ends = end_from-push 0 so_far.earlier claim;
      left = repeated-step (next_claim most) text count passed so_far.earlier (so_far.earlier ++ claim ∷ []) after next
          (read (claims_of count most) text at) more read_on so_far.left;
    }

-- the next one was refused
pub so_far-fails : (count passed most end : ℕ) (text : List ℕ) (after at : ℕ) (o : Option (ℕ × Stop SegmentCause)) → passed < count
    → SoFar count passed most end text after at → Fails o (read (claim_after most end) text after)
    → Fails o (read (claims_of count most) text at)
unfolding next_claim
so_far-fails count passed most end text after at o more so_far fails =
    let one : Fails o (read (claim_after most (end_from 0 so_far.earlier)) text after) = rw so_far.ends fails in
    repeated-fails (next_claim most) text count passed so_far.earlier after o (read (claims_of count most) text at) more
    (fails-on o (read (claim_after most (end_from 0 so_far.earlier)) text after) (read (next_claim most so_far.earlier) text after)
    (λ s is. rw is refl) one)
    so_far.left

-- all were read, and are those that stand there
pub so_far-end : (count passed most end : ℕ) (text : List ℕ) (after at : ℕ) → count ≤ passed
    → SoFar count passed most end text after at → read (claims_of count most) text at ≡ Ok (claims_in count (drop at text), after)
unfolding claims_of
so_far-end count passed most end text after at all so_far =
    let is = repeated-end (next_claim most) text count passed so_far.earlier after (read (claims_of count most) text at) all so_far.left in
    let claims = claims_in-read count most [] so_far.earlier text at after is in
    rw claims is
