-- Reading blocks until the last: one block more, the last one, and one that isn't there.

use Rattle.std.proofs.Common.{◌≡◌, ℕ, ◌+◌, ◌-◌, Bool, true, false, not, cond, eqb, inl, inr}
use Rattle.std.proofs.Common.{List, [], ◌∷◌, ◌++◌, length, refl, sym, ap, arith, length-append}
use Rattle.std.proofs.Common.{Option, Result, Ok}
use Rattle.std.specs.List.{count_by}
use Rattle.std.proofs.lemmas.Bool.{cases_lt}
use Rattle.std.proofs.lemmas.List.Folds.{list_any-append}
use Rattle.std.proofs.lemmas.List.Sums.{sum_by-append}
use Rattle.std.proofs.Math.Bool.{or-true, or-false}
use Rattle.endpoint.specs.declared.extent.Fragment.{Fragment}
use Rattle.wire_fields.specs.Refusal.{Stop}
use Rattle.wire_fields.specs.Reading.{read, go_on}
use Rattle.wire_fields.specs.Words.{until}
use Rattle.wire_fields.specs.Gives.{Fails}
use Rattle.wire_fields.proofs.GroupLemmas.{until-step, until-last, until-fails, until-none, fails-on}
use Rattle.bundle6.specs.declared.fault.Cause6.{Cause6}
use Rattle.bundle6.specs.declared.block.Block6.{Block6}
use Rattle.bundle6.specs.declared.block.Seen.{Seen}
use Rattle.bundle6.specs.Table.{block, next_block, is_payload, has_payload, others}
use Rattle.bundle6.specs.Seen.{seen_with, how_many, Follows}

module _ (most : ℕ) (part : Option Fragment) (dictionary : List ℕ) (text : List ℕ) where
  then_blocks : (earlier : List Block6) → (Block6 × Bool) × ℕ → Result ((List Block6 × Bool) × ℕ) (ℕ × Stop Cause6)
  then_blocks earlier x = Ok ((earlier ++ x.0.0 ∷ [], x.0.1), x.1)

  pub next_block-ok : (left : ℕ) (earlier : List Block6) (paid : Bool) (other : ℕ) (b : Block6) (last : Bool) (at to : ℕ)
      → paid ≡ has_payload earlier → other ≡ others earlier
      → read (block most part dictionary paid other) text at ≡ Ok ((b, last), to)
      → read (next_block most part dictionary left earlier) text at ≡ Ok ((earlier ++ b ∷ [], last), to)
  unfolding next_block then_blocks
  next_block-ok left earlier paid other b last at to first second is =
      ap (λ r. go_on r (then_blocks earlier)) (rw (first, second) at is)

  pub next_block-fails : (left : ℕ) (earlier : List Block6) (paid : Bool) (other at : ℕ) (o : Option (ℕ × Stop Cause6))
      → paid ≡ has_payload earlier → other ≡ others earlier
      → Fails o (read (block most part dictionary paid other) text at)
      → Fails o (read (next_block most part dictionary left earlier) text at)
  unfolding next_block then_blocks
  next_block-fails left earlier paid other at o first second fails =
      fails-on o (read (block most part dictionary (has_payload earlier) (others earlier)) text at) _
      (λ s is. ap (λ r. go_on r (then_blocks earlier)) is) (rw (first, second) at fails)

  -- one block more, which isn't the last
  pub blocks-step : (earlier : List Block6) (seen : Seen) (b : Block6) (at to : ℕ) (all : Result (List Block6 × ℕ) (ℕ × Stop Cause6))
      → seen.paid ≡ has_payload earlier → seen.others ≡ others earlier → length earlier ≡ how_many seen
      → Follows most seen (seen_with seen b.kind)
      → read (block most part dictionary seen.paid seen.others) text at ≡ Ok ((b, false), to)
      → read (until (most + 1 - length earlier) (next_block most part dictionary) earlier) text at ≡ all
      → read (until (most + 1 - length (earlier ++ b ∷ [])) (next_block most part dictionary) (earlier ++ b ∷ [])) text to ≡ all
  blocks-step earlier seen b at to all first second count follows is left =
      let more : length (earlier ++ b ∷ []) ≡ length earlier + 1 = length-append earlier (b ∷ []) in
      rw more (until-step (next_block most part dictionary) text (most + 1) (length earlier) earlier (earlier ++ b ∷ []) at to all
      (omega (arith, follows.room))
      (next_block-ok (most + 1 - length earlier) earlier seen.paid seen.others b false at to first second is) left)

  -- the last block
  pub blocks-last : (earlier : List Block6) (seen : Seen) (b : Block6) (at to : ℕ) (all : Result (List Block6 × ℕ) (ℕ × Stop Cause6))
      → seen.paid ≡ has_payload earlier → seen.others ≡ others earlier → length earlier ≡ how_many seen
      → Follows most seen (seen_with seen b.kind)
      → read (block most part dictionary seen.paid seen.others) text at ≡ Ok ((b, true), to)
      → read (until (most + 1 - length earlier) (next_block most part dictionary) earlier) text at ≡ all
      → all ≡ Ok (earlier ++ b ∷ [], to)
  blocks-last earlier seen b at to all first second count follows is left =
      until-last (next_block most part dictionary) text (most + 1) (length earlier) earlier (earlier ++ b ∷ []) at to all
      (omega (arith, follows.room))
      (next_block-ok (most + 1 - length earlier) earlier seen.paid seen.others b true at to first second is) left

  -- a block that isn't there
  pub blocks-fails : (earlier : List Block6) (seen : Seen) (at : ℕ) (o : Option (ℕ × Stop Cause6)) (all : Result (List Block6 × ℕ) (ℕ × Stop Cause6))
      → seen.paid ≡ has_payload earlier → seen.others ≡ others earlier
      → Fails o (read (block most part dictionary seen.paid seen.others) text at)
      → read (until (most + 1 - length earlier) (next_block most part dictionary) earlier) text at ≡ all
      → Fails o all
  blocks-fails earlier seen at o all first second fails left =
      elim (cases_lt (length earlier) (most + 1)) [
        | inl room ↦ until-fails (next_block most part dictionary) text (most + 1) (length earlier) earlier at o all room
            (next_block-fails (most + 1 - length earlier) earlier seen.paid seen.others at o first second fails) left
        | inr full ↦ until-none (next_block most part dictionary) text (most + 1) (length earlier) earlier at o all full
            (next_block-fails 0 earlier seen.paid seen.others at o first second fails) left
      ]

-- ---- what was seen of the blocks

-- one more counts one more, where it passes
pub count-push : (p : Block6 → Bool) (earlier : List Block6) (b : Block6)
    → count_by p (earlier ++ b ∷ []) ≡ count_by p earlier + cond (p b) 1 0
count-push p earlier b = omega (arith, sum_by-append (λ x. cond (p x) 1 0) earlier (b ∷ []))

pub others-push : (earlier : List Block6) (b : Block6)
    → others (earlier ++ b ∷ []) ≡ others earlier + cond (not (is_payload b)) 1 0
others-push earlier b = count-push (λ block. not (is_payload block)) earlier b

-- one more is seen of one more
pub seen-more : (seen : Seen) (earlier : List Block6) (b : Block6)
    → seen.paid ≡ has_payload earlier → seen.others ≡ others earlier
    → ((seen_with seen b.kind).paid ≡ has_payload (earlier ++ b ∷ [])) × ((seen_with seen b.kind).others ≡ others (earlier ++ b ∷ []))
seen-more seen earlier b first second = by (eqb b.kind 1) refl
  where
    by : (t : Bool) → eqb b.kind 1 ≡ t
        → ((seen_with seen b.kind).paid ≡ has_payload (earlier ++ b ∷ [])) × ((seen_with seen b.kind).others ≡ others (earlier ++ b ∷ []))
    by true is = (
      rw (list_any-append is_payload earlier (b ∷ []), is) (sym (or-true (has_payload earlier))),
      rw (others-push earlier b, is, second) (omega arith),
    )
    by false is = (
      rw (list_any-append is_payload earlier (b ∷ []), is, first) (sym (or-false (has_payload earlier))),
      rw (others-push earlier b, is, second) refl,
    )
