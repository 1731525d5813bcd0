-- The totals that are kept.

use Rattle.std.proofs.Common.{◌≡◌, ℕ, ◌≤◌, ◌==◌, Bool, true, false, nat_lt, nat_le, if◌then◌else◌, All, List, [], ◌∷◌, length, take, drop, suc, Option, None, Some, Result, Ok, Err, refl, sym, subst, arith, length-append}
use Rattle.std.proofs.lemmas.Bool.{ltb-false}
use Rattle.std.proofs.lemmas.List.Elements.{All-take, All-drop, All-append, All-nil, All-cons}
use Rattle.endpoint.specs.declared.extent.Fragment.{Fragment}
use Rattle.bundle_meaning.specs.declared.shared.Shared.{Shared}
use Rattle.bundle_meaning.specs.declared.full.Full.{Full}
use Rattle.fragments.specs.declared.limits.TheConstants.{TOTAL_MAX, NAMES_MAX}
use Rattle.fragments.specs.declared.fault.JoinRefused.{JoinRefused}
use Rattle.fragments.specs.declared.fault.JoinRefused.TheVariants as refusals
use Rattle.fragments.specs.declared.join.Join.{Join}
use Rattle.fragments.specs.Joining.{index_of, others, open_total, accepted, accepted_as, fits, whole_of, joined_with, kept_after, joins_after}
use Rattle.fragments.specs.Again.{after, after_at, after_records, IsSmall, IsBounded, TotalsAreSmall}
use Rattle.fragments.proofs.JoinLemmas.{others-room}
use Rattle.fragments.proofs.BegunLemmas.{is-taken}

own-part : (p part : Fragment) (count : ℕ) (total : Option ℕ) → fits p count total ≡ Ok part → p ≡ part
own-part p part count None is = by (nat_le NAMES_MAX count) is
  where
    by : (t : Bool) → (if t then Err refusals.NoRoom else Ok p) ≡ Ok part → p ≡ part
    by true is = absurd (cc)
    by false is = cc
own-part p part count (Some total) is = by (total == p.total) is
  where
    by : (t : Bool) → (if t then Ok p else Err refusals.TotalDiffers) ≡ Ok part → p ≡ part
    by true is = cc
    by false is = absurd (cc)

small-part : (f : Option Fragment) (count : ℕ) (total : Option ℕ) (part : Fragment) → accepted_as f count total ≡ Ok part → part.total ≤ TOTAL_MAX
small-part None count total part is = absurd (cc)
small-part (Some p) count total part is = by (nat_lt TOTAL_MAX p.total) refl is
  where
    by : (t : Bool) → nat_lt TOTAL_MAX p.total ≡ t → (if t then Err refusals.TooLarge else fits p count total) ≡ Ok part → part.total ≤ TOTAL_MAX
    by true test is = absurd (cc)
    by false test is =
        subst (λ (q : Fragment). q.total ≤ TOTAL_MAX) (own-part p part count total is) (ltb-false TOTAL_MAX p.total test)

small-others : (shared : Shared) (joins : List Join) → All IsSmall joins → All IsSmall (others shared joins)
small-others shared joins small = by (nat_lt (index_of shared joins) (length joins)) refl
  where
    by : (t : Bool) → nat_lt (index_of shared joins) (length joins) ≡ t → All IsSmall (others shared joins)
    by true is =
        rw is (All-append IsSmall (take (index_of shared joins) joins) (drop (suc (index_of shared joins)) joins)
        (All-take IsSmall (index_of shared joins) joins small) (All-drop IsSmall (suc (index_of shared joins)) joins small))
    by false is = rw is small

small-after : (joins : List Join) (full : Full) → All IsSmall joins → All IsSmall (after joins full)
small-after joins full small = by (accepted joins full.shared) refl
  where
    kept : (whole : Option Full) (part : Fragment) → accepted joins full.shared ≡ Ok part
        → All IsSmall (kept_after whole (others full.shared joins) (joined_with joins full part))
    kept (Some whole) part taken = small-others full.shared joins small
    kept None part taken =
        let own : (joined_with joins full part).total ≤ TOTAL_MAX =
        subst (λ n. n ≤ TOTAL_MAX) (sym (is-taken joins full part taken).same)
        (small-part full.shared.fragment (length joins) (open_total full.shared joins) part taken) in
        All-append IsSmall (others full.shared joins) (joined_with joins full part ∷ []) (small-others full.shared joins small)
        (All-cons IsSmall (joined_with joins full part) [] own (All-nil IsSmall))

    by : (taken : Result Fragment JoinRefused) → accepted joins full.shared ≡ taken → All IsSmall (after_at joins full taken)
    by (Ok part) is = kept (whole_of (joined_with joins full part)) part is
    by (Err refused) is = small

pub totals-are-small : TotalsAreSmall
unfolding after_records
totals-are-small [] = All-nil IsSmall
totals-are-small (full ∷ earlier) = small-after (after_records earlier) full (totals-are-small earlier)

-- ---- what a joiner keeps

pub bounded-none : IsBounded []
bounded-none = record { names = omega arith; totals = All-nil IsSmall }

-- without the join that a fragment is taken into
pub bounded-others : (joins : List Join) (shared : Shared) (part : Fragment) → accepted joins shared ≡ Ok part → IsBounded joins
    → IsBounded (others shared joins)
bounded-others joins shared part taken bounded = record {
  names = omega (arith, others-room joins shared part taken bounded.names);
  totals = small-others shared joins bounded.totals;
}

-- with it
pub bounded-after : (joins : List Join) (full : Full) (part : Fragment) → accepted joins full.shared ≡ Ok part → IsBounded joins
    → IsBounded (joins_after joins full part)
bounded-after joins full part taken bounded = record {
  names = few (whole_of (joined_with joins full part));
  totals = subst (λ (r : Result Fragment JoinRefused). All IsSmall (after_at joins full r)) taken (small-after joins full bounded.totals);
}
  where
    few : (whole : Option Full) → length (kept_after whole (others full.shared joins) (joined_with joins full part)) ≤ NAMES_MAX
    few (Some whole) = omega (arith, others-room joins full.shared part taken bounded.names)
    few None =
        omega (arith, length-append (others full.shared joins) (joined_with joins full part ∷ []), others-room joins full.shared part taken bounded.names)
