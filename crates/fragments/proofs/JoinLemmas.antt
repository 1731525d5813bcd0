-- Joins, and which of them has a name.

use Rattle.std.proofs.Common.{◌≡◌, ℕ, ◌+◌, ◌<◌, ◌≤◌, Bool, true, false, nat_lt, nat_le, if◌then◌else◌, List, length, take, drop, get_or, Option, None, Some, Ok, Err, refl, arith, length-append, length-drop, ◌⊎◌, inl, inr, suc}
use Rattle.std.proofs.lemmas.Option.{slice_get_cases}
use Rattle.std.specs.List.{remove, slice_get}
use Rattle.std.proofs.lemmas.Bool.Decides.{nat_tests}
use Rattle.std.proofs.lemmas.Bool.{ltb-true, ltb-false}
use Rattle.std.proofs.lemmas.List.{length-take-le}
use Rattle.endpoint.specs.declared.extent.Fragment.{Fragment}
use Rattle.bundle_meaning.specs.declared.shared.Shared.{Shared}
use Rattle.fragments.specs.declared.limits.TheConstants.{TOTAL_MAX, NAMES_MAX}
use Rattle.fragments.specs.declared.fault.JoinRefused.TheVariants as refusals
use Rattle.fragments.specs.declared.join.Join.{Join}
use Rattle.fragments.specs.Joining.{index_of, open_join, others, accepted, accepted_as}

-- ---- room

slice_get-past : (joins : List Join) (i : ℕ) → length joins ≤ i → slice_get joins i ≡ None
slice_get-past joins i past = by (slice_get_cases joins i).1
  where
    by : ((x : Join) × (i < length joins) × (slice_get joins i ≡ Some x) × (get_or joins i x ≡ x)) ⊎ ((length joins ≤ i) × (slice_get joins i ≡ None)) → slice_get joins i ≡ None
    by (inl (x, within, found, read)) = absurd (omega (arith, within, past))
    by (inr (out, none)) = none

length-remove : (joins : List Join) (i : ℕ) → i < length joins → length (remove joins i) + 1 ≡ length joins
length-remove joins i within =
    omega (arith, length-append (take i joins) (drop (suc i) joins), length-take-le i joins (omega (arith, within)), length-drop (suc i) joins)

-- a fragment that is taken leaves room for its join
pub others-room : (joins : List Join) (shared : Shared) (part : Fragment) → accepted joins shared ≡ Ok part → length joins ≤ NAMES_MAX
    → length (others shared joins) < NAMES_MAX
others-room joins shared part taken few = by (nat_lt (index_of shared joins) (length joins)) refl
  where
    room : (f : Option Fragment) → accepted_as f (length joins) None ≡ Ok part → length joins < NAMES_MAX
    room None is = absurd (cc)
    room (Some p) is = by_size (nat_lt TOTAL_MAX p.total) (nat_le NAMES_MAX (length joins)) refl is
      where
        by_size : (large full : Bool) → nat_le NAMES_MAX (length joins) ≡ full
            → (if large then Err refusals.TooLarge else (if full then Err refusals.NoRoom else Ok p)) ≡ Ok part → length joins < NAMES_MAX
        by_size true full low is = absurd (cc)
        by_size false true low is = absurd (cc)
        by_size false false low is = grind (arith, nat_tests)

    by : (found : Bool) → nat_lt (index_of shared joins) (length joins) ≡ found → length (others shared joins) < NAMES_MAX
    by true is = rw is (omega (arith, length-remove joins (index_of shared joins) (ltb-true (index_of shared joins) (length joins) is), few))
    by false is =
        let none : open_join shared joins ≡ None = slice_get-past joins (index_of shared joins) (ltb-false (index_of shared joins) (length joins) is) in
        rw is (room shared.fragment (rw none at taken))
