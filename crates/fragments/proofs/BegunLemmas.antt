-- A join that has the first octet has the first fragment too.

use Rattle.std.proofs.Common.{◌≡◌, ℕ, zero, suc, ◌<◌, ◌≤◌, ◌==◌, Bool, true, false, nat_lt, nat_le, if◌then◌else◌, List, [], ◌∷◌, ◌++◌, length, take, drop, Option, None, Some, is_some, Result, Ok, Err, refl, ap, subst, ◌∙◌, arith, ⊎_elim, eqb-true}
use Rattle.std.specs.List.{slice_get}
use Rattle.std.proofs.lemmas.Bool.{cases_lt}
use Rattle.std.proofs.lemmas.Bool.Decides.{nat_tests}
use Rattle.endpoint.specs.declared.extent.Fragment.{Fragment}
use Rattle.bundle_meaning.specs.declared.shared.Content.{Content}
use Rattle.bundle_meaning.specs.declared.shared.Content.TheVariants.{Bytes, Report}
use Rattle.bundle_meaning.specs.declared.shared.Shared.{Shared}
use Rattle.bundle_meaning.specs.declared.full.Full.{Full}
use Rattle.bundle_meaning.specs.Valid.{IsFragment}
use Rattle.fragments.specs.declared.limits.TheConstants.{TOTAL_MAX, NAMES_MAX}
use Rattle.fragments.specs.declared.fault.JoinRefused.{JoinRefused}
use Rattle.fragments.specs.declared.fault.JoinRefused.TheVariants as refusals
use Rattle.fragments.specs.declared.join.Join.{Join}
use Rattle.cells.specs.Cells.{cell, octet_in, or_else, all_octets}
use Rattle.fragments.specs.Cells.{whole_octets}
use Rattle.fragments.specs.Cutting.{octets_of}
use Rattle.fragments.specs.Joining.{index_of, open_join, open_total, others, accepted, accepted_as, new_join, started, head_with, grown, whole_of, whole_with, joined_with, kept_after}
use Rattle.fragments.specs.Again.{after, after_at, after_records, WholeWhenAllCame}
use Rattle.cells.proofs.CellLemmas.{octet_in-before_first, all_octets-cell, all_octets-length}
use Rattle.fragments.proofs.AgainLemmas.{cell-with}

record IsBegun (join : Join) : Type 0 where
  headed : is_some (cell join.cells 0) ≡ true → is_some join.head ≡ true

abbrev AreBegun : List Join → Type 0
AreBegun [] = Unit {0}
AreBegun (join ∷ joins) = IsBegun join × AreBegun joins

begun-take : (n : ℕ) (joins : List Join) → AreBegun joins → AreBegun (take n joins)
begun-take zero joins begun = tt
begun-take (suc n) [] begun = tt
begun-take (suc n) (join ∷ joins) (first, rest) = (first, begun-take n joins rest)

begun-drop : (n : ℕ) (joins : List Join) → AreBegun joins → AreBegun (drop n joins)
begun-drop zero joins begun = begun
begun-drop (suc n) [] begun = tt
begun-drop (suc n) (join ∷ joins) (first, rest) = begun-drop n joins rest

begun-append : (xs ys : List Join) → AreBegun xs → AreBegun ys → AreBegun (xs ++ ys)
begun-append [] ys some more = more
begun-append (x ∷ xs) ys (first, rest) more = (first, begun-append xs ys rest more)

begun-others : (shared : Shared) (joins : List Join) → AreBegun joins → AreBegun (others shared joins)
begun-others shared joins begun = by (nat_lt (index_of shared joins) (length joins)) refl
  where
    by : (t : Bool) → nat_lt (index_of shared joins) (length joins) ≡ t → AreBegun (others shared joins)
    by true is =
        rw is (begun-append (take (index_of shared joins) joins) (drop (suc (index_of shared joins)) joins)
        (begun-take (index_of shared joins) joins begun) (begun-drop (suc (index_of shared joins)) joins begun))
    by false is = rw is begun

begun-get : (i : ℕ) (joins : List Join) (join : Join) → slice_get joins i ≡ Some join → AreBegun joins → IsBegun join
begun-get zero (first ∷ joins) join is (one, rest) = let same : first ≡ join = cc in rw same at one
begun-get (suc i) (first ∷ joins) join is (one, rest) = begun-get i joins join is rest
begun-get zero [] join is begun = absurd (cc)
begun-get (suc i) [] join is begun = absurd (cc)

begun-new : (shared : Shared) (total : ℕ) → IsBegun (new_join shared total)
begun-new shared total = record { headed = λ first. let none : is_some (cell [] 0) ≡ false = refl in absurd (cc) }

begun-started : (kept : Option Join) (shared : Shared) (total : ℕ) → ((join : Join) → kept ≡ Some join → IsBegun join) → IsBegun (started kept shared total)
begun-started None shared total begun = begun-new shared total
begun-started (Some join) shared total begun = begun join refl

-- a fragment with offset 0 leaves a head
pub headed-zero : (head : Option Full) (full : Full) (offset : ℕ) → offset ≡ 0 → is_some (head_with head full offset) ≡ true
headed-zero (Some h) full offset is = refl
headed-zero None full offset is = let test : (offset == 0) ≡ true = grind (arith, nat_tests, is) in rw test refl

pub headed-kept : (head : Option Full) (full : Full) (offset : ℕ) → is_some head ≡ true → is_some (head_with head full offset) ≡ true
headed-kept (Some h) full offset some = refl
headed-kept None full offset some = absurd (cc)

begun-grown : (join : Join) (full : Full) (offset : ℕ) → IsBegun join → IsBegun (grown join full offset)
begun-grown join full offset begun = record {
  headed = λ first.
      by (cell join.cells 0) refl (rw (cell-with join.cells offset (octets_of full.shared.content) 0) at first);
}
  where
    by : (c : Option ℕ) → cell join.cells 0 ≡ c → is_some (or_else (cell join.cells 0) (octet_in offset (octets_of full.shared.content) 0)) ≡ true
        → is_some (head_with join.head full offset) ≡ true
    by (Some x) is first = headed-kept join.head full offset (begun.headed (ap is_some is))
    by None is first = ⊎_elim
        (λ (late : 0 < offset).
        let none : is_some (octet_in offset (octets_of full.shared.content) 0) ≡ false =
        ap is_some (octet_in-before_first offset (octets_of full.shared.content) 0 late) in
        let own : is_some (octet_in offset (octets_of full.shared.content) 0) ≡ true = rw is at first in absurd (cc))
        (λ (low : offset ≤ 0). headed-zero join.head full offset (omega (arith, low)))
        (cases_lt 0 offset)

begun-joined : (joins : List Join) (full : Full) (part : Fragment) → AreBegun joins → IsBegun (joined_with joins full part)
begun-joined joins full part begun =
    begun-grown (started (open_join full.shared joins) full.shared part.total) full part.offset
    (begun-started (open_join full.shared joins) full.shared part.total (λ join is. begun-get (index_of full.shared joins) joins join is begun))

begun-after : (joins : List Join) (full : Full) → AreBegun joins → AreBegun (after joins full)
begun-after joins full begun = by (accepted joins full.shared)
  where
    kept : (whole : Option Full) (part : Fragment) → AreBegun (kept_after whole (others full.shared joins) (joined_with joins full part))
    kept (Some whole) part = begun-others full.shared joins begun
    kept None part = begun-append (others full.shared joins) (joined_with joins full part ∷ []) (begun-others full.shared joins begun) (begun-joined joins full part begun, tt)

    by : (taken : Result Fragment JoinRefused) → AreBegun (after_at joins full taken)
    by (Ok part) = kept (whole_of (joined_with joins full part)) part
    by (Err refused) = begun

begun-records : (earlier : List Full) → AreBegun (after_records earlier)
unfolding after_records
begun-records [] = tt
begun-records (full ∷ earlier) = begun-after (after_records earlier) full (begun-records earlier)

-- ---- what is taken

pub record IsTaken (joins : List Join) (full : Full) (part : Fragment) : Type 0 where
  pub own : full.shared.fragment ≡ Some part
  pub same : (joined_with joins full part).total ≡ part.total

pub is-taken : (joins : List Join) (full : Full) (part : Fragment) → accepted joins full.shared ≡ Ok part → IsTaken joins full part
is-taken joins full part taken = by full.shared.fragment (open_join full.shared joins) refl refl taken
  where
    total-of : (kept : Option Join) → open_join full.shared joins ≡ kept → (started kept full.shared part.total).total ≡ part.total → (joined_with joins full part).total ≡ part.total
    total-of kept is same = ap (λ k. (started k full.shared part.total).total) is ∙ same

    fits-some : (p : Fragment) (join : Join) (large same : Bool) → (join.total == p.total) ≡ same
        → (if large then Err refusals.TooLarge else (if same then Ok p else Err refusals.TotalDiffers)) ≡ Ok part → (p ≡ part) × (join.total ≡ p.total)
    fits-some p join true same test is = absurd (cc)
    fits-some p join false true test is = let one : p ≡ part = cc in (one, eqb-true join.total p.total test)
    fits-some p join false false test is = absurd (cc)

    fits-none : (p : Fragment) (large full_up : Bool)
        → (if large then Err refusals.TooLarge else (if full_up then Err refusals.NoRoom else Ok p)) ≡ Ok part → p ≡ part
    fits-none p true full_up is = absurd (cc)
    fits-none p false true is = absurd (cc)
    fits-none p false false is = cc

    by : (f : Option Fragment) (kept : Option Join) → full.shared.fragment ≡ f → open_join full.shared joins ≡ kept
        → accepted joins full.shared ≡ Ok part → IsTaken joins full part
    by None kept is found taken = let no : accepted_as None (length joins) (open_total full.shared joins) ≡ Ok part = rw is at taken in absurd (cc)
    by (Some p) None is found taken =
        let one = fits-none p (nat_lt TOTAL_MAX p.total) (nat_le NAMES_MAX (length joins)) (rw (is, found) at taken) in
        record { own = is ∙ ap (λ q. Some q) one; same = total-of None found refl }
    by (Some p) (Some join) is found taken =
        let parts = fits-some p join (nat_lt TOTAL_MAX p.total) (join.total == p.total) refl (rw (is, found) at taken) in
        record { own = is ∙ ap (λ q. Some q) parts.0; same = total-of (Some join) found (parts.1 ∙ ap (λ q. q.total) parts.0) }

-- a fragment begins within the whole
within-total : (f : Option Fragment) (content : Content) (part : Fragment) → f ≡ Some part → IsFragment f content → part.offset ≤ part.total
within-total None content part is fits = absurd (cc)
within-total (Some p) (Bytes octets) part is (total, within) = let same : p ≡ part = cc in let low : p.offset ≤ p.total = omega (arith, within) in subst (λ (q : Fragment). q.offset ≤ q.total) same low
within-total (Some p) (Report report) part is fits = absurd fits

-- ---- the whole

pub when-all-came : WholeWhenAllCame
when-all-came earlier full part valid taken =
    by (whole_octets join.cells join.total) refl ∙ ap (λ n. is_some (whole_octets join.cells n)) fair.same
  where
    state : List Join
    state = after_records earlier

    join : Join
    join = joined_with state full part

    fair : IsTaken state full part
    fair = is-taken state full part taken

    begun : IsBegun join
    begun = begun-joined state full part (begun-records earlier)

    -- where all octets came, the head did
    headed : (octets : List ℕ) → whole_octets join.cells join.total ≡ Some octets → is_some join.head ≡ true
    headed octets all = ⊎_elim some none (cases_lt 0 join.total)
      where
        parts : (t : Bool) → (join.total == length join.cells) ≡ t → (if t then all_octets join.cells else None) ≡ Some octets
            → (join.total ≡ length join.cells) × (all_octets join.cells ≡ Some octets)
        parts true test is = (eqb-true join.total (length join.cells) test, is)
        parts false test is = absurd (cc)

        both : (join.total ≡ length join.cells) × (all_octets join.cells ≡ Some octets)
        both = parts (join.total == length join.cells) refl all

        some : 0 < join.total → is_some join.head ≡ true
        some low =
            begun.headed (ap is_some (all_octets-cell join.cells octets both.1 0 (omega (arith, low, both.0, all_octets-length join.cells octets both.1))))

        none : join.total ≤ 0 → is_some join.head ≡ true
        none low =
            let within = within-total full.shared.fragment full.shared.content part fair.own valid.shared.fragment in
            headed-zero (started (open_join full.shared state) full.shared part.total).head full part.offset (omega (arith, within, fair.same, low))

    with-head : (octets : List ℕ) (head : Option Full) → is_some head ≡ true → is_some (whole_with (Some octets) head) ≡ true
    with-head octets (Some h) some = refl
    with-head octets None some = absurd (cc)

    by : (found : Option (List ℕ)) → whole_octets join.cells join.total ≡ found → is_some (whole_of join) ≡ is_some (whole_octets join.cells join.total)
    by None is = rw is refl
    by (Some octets) is = rw is (with-head octets join.head (headed octets is))
