-- A record of another name leaves what is open under a name.

use Rattle.std.proofs.Common.{◌≡◌, ℕ, suc, ◌+◌, Bool, true, false, nat_lt, if◌then◌else◌, cond, List, [], ◌∷◌, ◌++◌, length, Option, None, Some, Result, Ok, Err, refl, sym, ap, ◌∙◌, arith}
use Rattle.std.specs.List.{find, remove}
use Rattle.std.proofs.lemmas.Bool.Decides.{nat_tests}
use Rattle.std.proofs.lemmas.List.Folds.{find_at}
use Rattle.endpoint.specs.declared.extent.Fragment.{Fragment}
use Rattle.bundle_meaning.specs.declared.shared.Shared.{Shared}
use Rattle.bundle_meaning.specs.declared.full.Full.{Full}
use Rattle.fragments.specs.declared.fault.JoinRefused.{JoinRefused}
use Rattle.fragments.specs.declared.join.Join.{Join}
use Rattle.fragments.specs.Joining.{accepted, index_of, is_named, joined_with, kept_after, open_join, others, started, whole_of}
use Rattle.fragments.specs.Again.{after, after_at, after_records}
use Rattle.fragments.specs.Payload.{NamesStandAlone, have_one_name}
use Rattle.fragments.proofs.PayloadLemmas.{found-named, named-same, own-name}

-- ---- the first join of a name

abbrev first : Shared → List Join → Option Join
first shared joins = find (is_named shared) joins

pub open-first : (shared : Shared) (joins : List Join) → open_join shared joins ≡ first shared joins
open-first shared joins = sym (find_at (is_named shared) joins)

-- the joins without the first of a name
unfoldable pub without : Shared → List Join → List Join
without shared [] = []
without shared (join ∷ joins) = if is_named shared join then joins else join ∷ without shared joins

below : (i n : ℕ) → nat_lt (1 + i) (suc n) ≡ nat_lt i n
below i n = by (nat_lt i n) refl
  where
    by : (t : Bool) → nat_lt i n ≡ t → nat_lt (1 + i) (suc n) ≡ nat_lt i n
    by true is = rw is (grind (arith, nat_tests, is))
    by false is = rw is (grind (arith, nat_tests, is))

some : (n : ℕ) → nat_lt 0 (suc n) ≡ true
some n = grind (arith, nat_tests)

pub others-without : (shared : Shared) (joins : List Join) → others shared joins ≡ without shared joins
unfolding without
others-without shared [] = refl
others-without shared (join ∷ joins) = by (is_named shared join) refl (others-without shared joins)
  where
    by : (t : Bool) → is_named shared join ≡ t → others shared joins ≡ without shared joins
        → others shared (join ∷ joins) ≡ (if t then joins else join ∷ without shared joins)
    by true is rest = rw (is, some (length joins)) refl
    by false is rest =
        rw (is, below (index_of shared joins) (length joins))
        (more (nat_lt (index_of shared joins) (length joins)) ∙ ap (λ (js : List Join). join ∷ js) rest)
      where
        one : 1 + index_of shared joins ≡ suc (index_of shared joins)
        one = omega arith

        more : (t : Bool) → (if t then remove (join ∷ joins) (1 + index_of shared joins) else join ∷ joins)
            ≡ join ∷ (if t then remove joins (index_of shared joins) else joins)
        more true = ap (λ (i : ℕ). remove (join ∷ joins) i) one
        more false = refl

-- ---- another name

module _ (shared other : Shared) (apart : have_one_name shared other ≡ false) where
  not-both : (join : Join) → is_named shared join ≡ true → is_named other join ≡ true → ⊥
  not-both join here there = let no : true ≡ false = sym (named-same shared other join here there) ∙ apart in cc

  first-without : (joins : List Join) → first shared (without other joins) ≡ first shared joins
  unfolding without
  first-without [] = refl
  first-without (join ∷ joins) = by (is_named other join) (is_named shared join) refl refl (first-without joins)
    where
      by : (t u : Bool) → is_named other join ≡ t → is_named shared join ≡ u → first shared (without other joins) ≡ first shared joins
          → first shared (if t then joins else join ∷ without other joins) ≡ cond u (Some join) (first shared joins)
      by true true there here rest = absurd (not-both join here there)
      by true false there here rest = refl
      by false true there here rest = rw here refl
      by false false there here rest = rw here rest

  first-push : (joins : List Join) (join : Join) → is_named other join ≡ true → first shared (joins ++ join ∷ []) ≡ first shared joins
  first-push [] join there = by (is_named shared join) refl
    where
      by : (t : Bool) → is_named shared join ≡ t → cond (is_named shared join) (Some join) None ≡ None
      by true here = absurd (not-both join here there)
      by false here = rw here refl
  first-push (first_join ∷ joins) join there = ap (λ (o : Option Join). cond (is_named shared first_join) (Some first_join) o) (first-push joins join there)

  first-others : (joins : List Join) → open_join shared (others other joins) ≡ open_join shared joins
  first-others joins =
      open-first shared (others other joins) ∙ ap (first shared) (others-without other joins) ∙ first-without joins
      ∙ sym (open-first shared joins)

-- ---- a record

-- the join of a record has its name
pub joined-own : (full : Full) (joins : List Join) (part : Fragment) → is_named full.shared (joined_with joins full part) ≡ true
joined-own full joins part = by (open_join full.shared joins) refl
  where
    by : (kept : Option Join) → open_join full.shared joins ≡ kept → is_named full.shared (started kept full.shared part.total) ≡ true
    by None found = own-name full.shared
    by (Some join) found = found-named full.shared joins join found

pub stand-after : (shared : Shared) (full : Full) (joins : List Join) → have_one_name shared full.shared ≡ false
    → open_join shared (after joins full) ≡ open_join shared joins
stand-after shared full joins apart = by (accepted joins full.shared)
  where
    kept : (given : Option Full) (part : Fragment)
        → open_join shared (kept_after given (others full.shared joins) (joined_with joins full part)) ≡ open_join shared joins
    kept (Some given) part = first-others shared full.shared apart joins
    kept None part =
        let rest = others full.shared joins in
        let join = joined_with joins full part in
        open-first shared (rest ++ join ∷ []) ∙ first-push shared full.shared apart rest join (joined-own full joins part)
        ∙ sym (open-first shared rest) ∙ first-others shared full.shared apart joins

    by : (taken : Result Fragment JoinRefused) → open_join shared (after_at joins full taken) ≡ open_join shared joins
    by (Ok part) = kept (whole_of (joined_with joins full part)) part
    by (Err refused) = refl

pub stand_alone : NamesStandAlone
unfolding after_records
stand_alone shared full earlier apart = stand-after shared full (after_records earlier) apart
