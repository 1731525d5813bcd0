-- A fragment that brings nothing new leaves its join as it was.

use Rattle.std.proofs.Common.{◌≡◌, ℕ, suc, ◌+◌, ◌<◌, ◌≤◌, ◌==◌, Bool, true, false, not, ◌&&◌, ◌||◌, nat_lt, List, [], ◌∷◌, ◌++◌, length, take, drop, get_or, Option, None, Some, is_some, Ok, refl, ap, subst, ◌∙◌, arith, ⊎_elim, ◌⊎◌, inl, inr}
use Rattle.std.specs.List.{All, remove}
use Rattle.std.proofs.lemmas.Bool.{cases_lt, lt-ltb}
use Rattle.std.proofs.lemmas.List.{get_or_past}
use Rattle.std.proofs.lemmas.List.Elements.{All-take, All-drop, All-append, All-nil, All-cons, All-get_or}
use Rattle.std.proofs.lemmas.Option.{slice_get_cases}
use Rattle.endpoint.specs.declared.extent.Fragment.{Fragment}
use Rattle.bundle_meaning.specs.declared.shared.Shared.{Shared}
use Rattle.bundle_meaning.specs.declared.full.Full.{Full}
use Rattle.fragments.specs.declared.join.Join.{Join}
use Rattle.fragments.specs.declared.joining.Joined.TheVariants as answers
use Rattle.cells.specs.Cells.{cell, octet_in, or_else}
use Rattle.fragments.specs.Cells.{with_octets, has_all}
use Rattle.fragments.specs.Cutting.{octets_of}
use Rattle.fragments.specs.Joining.{index_of, open_join, others, head_with, grown, started, whole_of, is_repeat, brings_new, joined_with, kept_after, joins_after, accepted, IsOpen, TakesIn}
use Rattle.fragments.specs.Again.{AreKept}
use Rattle.cells.proofs.CellLemmas.{length-filled, octet_in-before_first, octet_in-past, or_else-none, cells-same}
use Rattle.fragments.proofs.AgainLemmas.{cell-with}
use Rattle.fragments.proofs.HasAllLemmas.{has-each}
use Rattle.fragments.proofs.SmallLemmas.{bounded-none, bounded-others, bounded-after}

-- ---- octets whose places all have one

some-below : (cells : List (Option ℕ)) (k : ℕ) → is_some (cell cells k) ≡ true → k < length cells
some-below cells k some = ⊎_elim
    (λ below. below)
    (λ past. let none : is_some (cell cells k) ≡ false = ap is_some (get_or_past cells k None past) in absurd (cc))
    (cases_lt k (length cells))

first-stays : (kept came : Option ℕ) → is_some kept ≡ true → or_else kept came ≡ kept
first-stays (Some octet) came some = refl
first-stays None came some = absurd (cc)

pub with-known : (cells : List (Option ℕ)) (offset : ℕ) (body : List ℕ) → has_all cells offset body ≡ true → with_octets cells offset body ≡ cells
with-known cells offset [] all = refl
with-known cells offset (o ∷ body) all = cells-same (with_octets cells offset (o ∷ body)) cells size each
  where
    last : offset + length body < length cells
    last = some-below cells (offset + length body) (has-each cells offset (o ∷ body) all (offset + length body) (omega arith) (omega arith))

    size : length (with_octets cells offset (o ∷ body)) ≡ length cells
    size = omega (arith, length-filled cells offset (o ∷ body), last)

    each : (k : ℕ) → cell (with_octets cells offset (o ∷ body)) k ≡ cell cells k
    each k = cell-with cells offset (o ∷ body) k ∙ ⊎_elim
        (λ before. ap (or_else (cell cells k)) (octet_in-before_first offset (o ∷ body) k before) ∙ or_else-none (cell cells k))
        (λ from. ⊎_elim
        (λ within. first-stays (cell cells k) (octet_in offset (o ∷ body) k) (has-each cells offset (o ∷ body) all k from within))
        (λ past. ap (or_else (cell cells k)) (octet_in-past offset (o ∷ body) k past) ∙ or_else-none (cell cells k))
        (cases_lt k (offset + length (o ∷ body))))
        (cases_lt k offset)

-- ---- the join

head-known : (head : Option Full) (full : Full) (offset : ℕ) → ((offset == 0) && not (is_some head)) ≡ false → head_with head full offset ≡ head
head-known (Some head) full offset known = refl
head-known None full offset known = by (offset == 0) refl known
  where
    by : (t : Bool) → (offset == 0) ≡ t → (t && true) ≡ false → head_with None full offset ≡ None
    by true is known = absurd (cc)
    by false is known = rw is refl

record IsKnown (join : Join) (full : Full) (offset : ℕ) : Type 0 where
  all : has_all join.cells offset (octets_of full.shared.content) ≡ true
  head : ((offset == 0) && not (is_some join.head)) ≡ false

known : (join : Join) (full : Full) (offset : ℕ) → brings_new (Some join) offset (octets_of full.shared.content) ≡ false → IsKnown join full offset
known join full offset nothing = by (has_all join.cells offset (octets_of full.shared.content)) refl nothing
  where
    by : (t : Bool) → has_all join.cells offset (octets_of full.shared.content) ≡ t
        → (not t || ((offset == 0) && not (is_some join.head))) ≡ false → IsKnown join full offset
    by true is nothing = record { all = is; head = nothing }
    by false is nothing = absurd (cc)

grown-known : (join : Join) (full : Full) (offset : ℕ) → IsKnown join full offset → grown join full offset ≡ join
grown-known join full offset known =
    rw (with-known join.cells offset (octets_of full.shared.content) known.all, head-known join.head full offset known.head) refl

-- ---- the joins

module _ (joins : List Join) (full : Full) (part : Fragment) (join : Join) (found : open_join full.shared joins ≡ Some join) (brings : IsKnown join full part.offset) where
  same : joined_with joins full part ≡ join
  same =
      ap (λ (o : Option Join). grown (started o full.shared part.total) full part.offset) found
      ∙ grown-known join full part.offset brings

  takes : (new : List Join) → IsOpen join → new ≡ others full.shared joins ++ join ∷ [] → TakesIn joins full part answers.Repeat new
  takes new open_yet kept =
      let unmade : whole_of (joined_with joins full part) ≡ None = ap whole_of same ∙ open_yet in
      let repeats : is_repeat (open_join full.shared joins) part.offset (octets_of full.shared.content) ≡ true = rw found brings.all in
      (rw (unmade, repeats) refl, rw (unmade, same) kept)

-- what is answered to such a fragment, and what is kept then: the same, its join last
pub takes-known : (joins new : List Join) (full : Full) (part : Fragment) → All IsOpen joins
    → brings_new (open_join full.shared joins) part.offset (octets_of full.shared.content) ≡ false
    → ((d : Join) → new ≡ remove joins (index_of full.shared joins) ++ get_or joins (index_of full.shared joins) d ∷ [])
    → TakesIn joins full part answers.Repeat new
takes-known joins new full part unfinished nothing last = by (slice_get_cases joins at).1
  where
    at : ℕ
    at = index_of full.shared joins

    by : ((x : Join) × (at < length joins) × (open_join full.shared joins ≡ Some x) × (get_or joins at x ≡ x))
        ⊎ ((length joins ≤ at) × (open_join full.shared joins ≡ None)) → TakesIn joins full part answers.Repeat new
    by (inl (join, below, found, read)) =
        takes joins full part join found (known join full part.offset (rw found at nothing)) new
        (subst IsOpen read (All-get_or IsOpen joins at join below unfinished))
        (rw (lt-ltb at (length joins) below) (last join ∙ ap (λ (j : Join). remove joins at ++ j ∷ []) read))
    by (inr (past, none)) = let no : true ≡ false = rw none at nothing in absurd (cc)

-- ---- what is kept

-- no whole that is there stays
pub unfinished-others : (shared : Shared) (joins : List Join) → All IsOpen joins → All IsOpen (others shared joins)
unfinished-others shared joins unfinished = by (nat_lt (index_of shared joins) (length joins)) refl
  where
    by : (t : Bool) → nat_lt (index_of shared joins) (length joins) ≡ t → All IsOpen (others shared joins)
    by true is =
        rw is (All-append IsOpen (take (index_of shared joins) joins) (drop (suc (index_of shared joins)) joins)
        (All-take IsOpen (index_of shared joins) joins unfinished) (All-drop IsOpen (suc (index_of shared joins)) joins unfinished))
    by false is = rw is unfinished

pub unfinished-after : (joins : List Join) (full : Full) (part : Fragment) → All IsOpen joins → All IsOpen (joins_after joins full part)
unfinished-after joins full part unfinished = by (whole_of (joined_with joins full part)) refl
  where
    by : (whole : Option Full) → whole_of (joined_with joins full part) ≡ whole
        → All IsOpen (kept_after whole (others full.shared joins) (joined_with joins full part))
    by (Some whole) is = unfinished-others full.shared joins unfinished
    by None is =
        All-append IsOpen (others full.shared joins) (joined_with joins full part ∷ []) (unfinished-others full.shared joins unfinished)
        (All-cons IsOpen (joined_with joins full part) [] is (All-nil IsOpen))

pub kept-none : AreKept []
kept-none = record { bounded = bounded-none; unfinished = All-nil IsOpen }

pub kept-others : (joins : List Join) (shared : Shared) (part : Fragment) → accepted joins shared ≡ Ok part → AreKept joins
    → AreKept (others shared joins)
kept-others joins shared part taken kept = record {
  bounded = bounded-others joins shared part taken kept.bounded;
  unfinished = unfinished-others shared joins kept.unfinished;
}

pub kept-after : (joins : List Join) (full : Full) (part : Fragment) → accepted joins full.shared ≡ Ok part → AreKept joins
    → AreKept (joins_after joins full part)
kept-after joins full part taken kept = record {
  bounded = bounded-after joins full part taken kept.bounded;
  unfinished = unfinished-after joins full part kept.unfinished;
}
