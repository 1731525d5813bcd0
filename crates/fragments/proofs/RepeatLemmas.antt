-- A fragment that was kept brings nothing new when it comes again.

use Rattle.std.proofs.Common.{◌≡◌, ℕ, ◌+◌, ◌≤◌, ◌==◌, Bool, true, false, not, ◌&&◌, if◌then◌else◌, cond, List, [], ◌∷◌, ◌++◌, Option, None, Some, is_some, Result, Ok, Err, IsOkAnd, refl, sym, ap, subst, ◌∙◌, arith, eqb-true, inl, inr}
use Rattle.std.specs.List.{find}
use Rattle.std.proofs.lemmas.List.Folds.{find-append}
use Rattle.endpoint.specs.declared.extent.Fragment.{Fragment}
use Rattle.bundle_meaning.specs.declared.shared.Shared.{Shared}
use Rattle.bundle_meaning.specs.declared.full.Full.{Full}
use Rattle.fragments.specs.declared.fault.JoinRefused.{JoinRefused}
use Rattle.fragments.specs.declared.join.Join.{Join}
use Rattle.cells.specs.Cells.{cell, octet_in, or_else}
use Rattle.fragments.specs.Cells.{with_octets, has_all}
use Rattle.fragments.specs.Cutting.{octets_of}
use Rattle.fragments.specs.Joining.{is_named, open_join, others, accepted, started, grown, whole_of, is_repeat, brings_new, joined_with, answered, kept_after}
use Rattle.fragments.specs.Again.{answer, answer_at, after, after_at, after_records, IsOpenAnswer}
use Rattle.fragments.specs.Payload.{have_one_name}
use Rattle.fragments.specs.Repeats.{IsNoWhole, IsKeptYet, RepeatsBringNothing}
use Rattle.cells.proofs.CellLemmas.{octet_in-inside}
use Rattle.fragments.proofs.AgainLemmas.{cell-with}
use Rattle.fragments.proofs.BegunLemmas.{is-taken, headed-zero, headed-kept}
use Rattle.fragments.proofs.HasAllLemmas.{has-each, has-from}
use Rattle.fragments.proofs.PayloadLemmas.{are-same}
use Rattle.fragments.proofs.NameLemmas.{open-first, without, others-without, joined-own, stand-after}

-- ---- one name

record OneName (one other : Shared) : Type 0 where
  time : one.millis ≡ other.millis
  number : one.sequence ≡ other.sequence
  node : one.source ≡ other.source

one-name : (one other : Shared) → have_one_name one other ≡ true → OneName one other
one-name one other is =
    let a = are-same one.millis one.sequence other.millis other.sequence one.source other.source is in
    record { time = a.time; number = a.number; node = a.node }

names-join : (one other : Shared) (join : Join) → is_named one join ≡ true → is_named other join ≡ true → OneName one other
names-join one other join first second =
    let a = are-same one.millis one.sequence join.millis join.sequence one.source join.source first in
    let b = are-same other.millis other.sequence join.millis join.sequence other.source join.source second in
    record { time = a.time ∙ sym b.time; number = a.number ∙ sym b.number; node = a.node ∙ sym b.node }

named-alike : (one other : Shared) → OneName one other → (join : Join) → is_named one join ≡ is_named other join
named-alike one other name join = rw (name.time, name.number, name.node) refl

open-alike : (one other : Shared) → OneName one other → (joins : List Join) → open_join one joins ≡ open_join other joins
open-alike one other name joins = rw (name.time, name.number, name.node) refl

-- ---- each name is kept once

how_often : Shared → List Join → ℕ
how_often shared [] = 0
how_often shared (join ∷ joins) = (if is_named shared join then 1 else 0) + how_often shared joins

AreOnce : List Join → Type 0
AreOnce joins = (shared : Shared) → how_often shared joins ≤ 1

often-alike : (one other : Shared) → OneName one other → (joins : List Join) → how_often one joins ≡ how_often other joins
unfolding how_often
often-alike one other name [] = refl
often-alike one other name (join ∷ joins) =
    let rest = often-alike one other name joins in rw (named-alike one other name join, rest) refl

often-push : (shared : Shared) (joins : List Join) (join : Join)
    → how_often shared (joins ++ join ∷ []) ≡ how_often shared joins + (if is_named shared join then 1 else 0)
unfolding how_often
often-push shared [] join = omega arith
often-push shared (first ∷ joins) join = omega (arith, often-push shared joins join)

often-without : (shared other : Shared) (joins : List Join) → how_often shared (without other joins) ≤ how_often shared joins
unfolding how_often without
often-without shared other [] = omega arith
often-without shared other (join ∷ joins) = by (is_named other join) (often-without shared other joins)
  where
    by : (t : Bool) → how_often shared (without other joins) ≤ how_often shared joins
        → how_often shared (if t then joins else join ∷ without other joins) ≤ (if is_named shared join then 1 else 0) + how_often shared joins
    by true rest = omega arith
    by false rest = omega (arith, rest)

-- none of a name is left without the first
none-left : (shared : Shared) (joins : List Join) → how_often shared joins ≤ 1 → how_often shared (without shared joins) ≡ 0
unfolding how_often without
none-left shared [] once = refl
none-left shared (join ∷ joins) once = by (is_named shared join) refl (λ few. none-left shared joins few) once
  where
    by : (t : Bool) → is_named shared join ≡ t → (how_often shared joins ≤ 1 → how_often shared (without shared joins) ≡ 0)
        → (if t then 1 else 0) + how_often shared joins ≤ 1
        → how_often shared (if t then joins else join ∷ without shared joins) ≡ 0
    by true is rest once = omega (arith, once)
    by false is rest once = rw is (omega (arith, rest (omega (arith, once))))

found-none : (shared : Shared) (joins : List Join) → how_often shared joins ≡ 0 → find (is_named shared) joins ≡ None
unfolding how_often
found-none shared [] none = refl
found-none shared (join ∷ joins) none = by (is_named shared join) refl (λ few. found-none shared joins few) none
  where
    by : (t : Bool) → is_named shared join ≡ t → (how_often shared joins ≡ 0 → find (is_named shared) joins ≡ None)
        → (if t then 1 else 0) + how_often shared joins ≡ 0
        → cond (is_named shared join) (Some join) (find (is_named shared) joins) ≡ None
    by true is rest none = absurd (omega (arith, none))
    by false is rest none = rw is (rest (omega (arith, none)))

often-others : (shared other : Shared) (joins : List Join) → how_often shared (others other joins) ≤ how_often shared joins
often-others shared other joins = rw (others-without other joins) (often-without shared other joins)

none-other : (shared : Shared) (joins : List Join) → how_often shared joins ≤ 1 → how_often shared (others shared joins) ≡ 0
none-other shared joins once = rw (others-without shared joins) (none-left shared joins once)

once-after : (joins : List Join) (full : Full) → AreOnce joins → AreOnce (after joins full)
unfolding AreOnce
once-after joins full once = by (accepted joins full.shared)
  where
    pushed : (part : Fragment) (shared : Shared) (t : Bool) → is_named shared (joined_with joins full part) ≡ t
        → how_often shared (others full.shared joins) + (if t then 1 else 0) ≤ 1
    pushed part shared false is = omega (arith, often-others shared full.shared joins, once shared)
    pushed part shared true is =
        let name = names-join shared full.shared (joined_with joins full part) is (joined-own full joins part) in
        let none = often-alike shared full.shared name (others full.shared joins) ∙ none-other full.shared joins (once full.shared) in
        omega (arith, none)

    kept : (whole : Option Full) (part : Fragment) (shared : Shared)
        → how_often shared (kept_after whole (others full.shared joins) (joined_with joins full part)) ≤ 1
    kept (Some whole) part shared = omega (arith, often-others shared full.shared joins, once shared)
    kept None part shared =
        rw (often-push shared (others full.shared joins) (joined_with joins full part))
        (pushed part shared (is_named shared (joined_with joins full part)) refl)

    by : (taken : Result Fragment JoinRefused) → AreOnce (after_at joins full taken)
    by (Ok part) = λ shared. kept (whole_of (joined_with joins full part)) part shared
    by (Err refused) = once

once-records : (records : List Full) → AreOnce (after_records records)
unfolding AreOnce after_records how_often
once-records [] = λ shared. omega arith
once-records (full ∷ earlier) = once-after (after_records earlier) full (once-records earlier)

-- the join of a fragment is open then
open-after : (joins : List Join) (full : Full) (part : Fragment) → AreOnce joins
    → open_join full.shared (others full.shared joins ++ joined_with joins full part ∷ []) ≡ Some (joined_with joins full part)
unfolding AreOnce
open-after joins full part once =
    let rest = others full.shared joins in
    let join = joined_with joins full part in
    let none : find (is_named full.shared) rest ≡ None = found-none full.shared rest (none-other full.shared joins (once full.shared)) in
    open-first full.shared (rest ++ join ∷ []) ∙ find-append (is_named full.shared) rest (join ∷ [])
    ∙ rw (none, joined-own full joins part) refl

-- ---- what a join has

some-later : (kept came : Option ℕ) → is_some came ≡ true → is_some (or_else kept came) ≡ true
some-later (Some octet) came some = refl
some-later None came some = some

some-first : (kept came : Option ℕ) → is_some kept ≡ true → is_some (or_else kept came) ≡ true
some-first (Some octet) came some = refl
some-first None came some = absurd (cc)

has-own : (cells : List (Option ℕ)) (offset : ℕ) (body : List ℕ) → has_all (with_octets cells offset body) offset body ≡ true
has-own cells offset body = has-from (with_octets cells offset body) offset body
    (λ k from below. ap is_some (cell-with cells offset body k)
    ∙ some-later (cell cells k) (octet_in offset body k) (ap is_some (octet_in-inside offset body k from below)))

has-still : (cells : List (Option ℕ)) (offset : ℕ) (body : List ℕ) (at : ℕ) (octets : List ℕ) → has_all cells at octets ≡ true
    → has_all (with_octets cells offset body) at octets ≡ true
has-still cells offset body at octets all = has-from (with_octets cells offset body) at octets
    (λ k from below. ap is_some (cell-with cells offset body k)
    ∙ some-first (cell cells k) (octet_in offset body k) (has-each cells at octets all k from below))

record HasIt (join : Join) (full : Full) (offset : ℕ) : Type 0 where
  all : has_all join.cells offset (octets_of full.shared.content) ≡ true
  head : offset ≡ 0 → is_some join.head ≡ true

has-it : (join : Join) (full : Full) (offset : ℕ) → HasIt (grown join full offset) full offset
has-it join full offset = record {
  all = has-own join.cells offset (octets_of full.shared.content);
  head = λ zero. headed-zero join.head full offset zero;
}

has-it-still : (join : Join) (full came : Full) (offset at : ℕ) → HasIt join full offset → HasIt (grown join came at) full offset
has-it-still join full came offset at has = record {
  all = has-still join.cells at (octets_of came.shared.content) offset (octets_of full.shared.content) has.all;
  head = λ zero. headed-kept join.head came at (has.head zero);
}

brings-nothing : (join : Join) (full : Full) (offset : ℕ) → HasIt join full offset
    → brings_new (Some join) offset (octets_of full.shared.content) ≡ false
brings-nothing join full offset has = rw has.all (by (offset == 0) refl)
  where
    by : (t : Bool) → (offset == 0) ≡ t → (t && not (is_some join.head)) ≡ false
    by false is = refl
    by true is = rw (has.head (eqb-true offset 0 is)) refl

-- ---- what stays so

record IsKept (full : Full) (joins : List Join) : Type 0 where
  join : Join
  found : open_join full.shared joins ≡ Some join
  has : (part : Fragment) → full.shared.fragment ≡ Some part → HasIt join full part.offset

kept-first : (joins : List Join) (full : Full) → AreOnce joins → IsOpenAnswer (answer joins full) → IsKept full (after joins full)
kept-first joins full once open_answer = by (accepted joins full.shared) refl open_answer
  where
    own : (part : Fragment) → accepted joins full.shared ≡ Ok part → (p : Fragment) → full.shared.fragment ≡ Some p → HasIt (joined_with joins full part) full p.offset
    own part taken p is =
        let same : part ≡ p = by_some part p (sym (is-taken joins full part taken).own ∙ is) in
        subst (λ (q : Fragment). HasIt (joined_with joins full part) full q.offset) same
        (has-it (started (open_join full.shared joins) full.shared part.total) full part.offset)
      where
        by_some : (a b : Fragment) → Some a ≡ Some b → a ≡ b
        by_some a b is = cc

    waits : (part : Fragment) → accepted joins full.shared ≡ Ok part → (whole : Option Full) (repeats : Bool) → IsOpenAnswer (Ok (answered whole repeats))
        → IsKept full (kept_after whole (others full.shared joins) (joined_with joins full part))
    waits part taken (Some whole) repeats made = absurd made
    waits part taken None repeats told = record {
      join = joined_with joins full part;
      found = open-after joins full part once;
      has = own part taken;
    }

    by : (taken : Result Fragment JoinRefused) → accepted joins full.shared ≡ taken → IsOpenAnswer (answer_at joins full taken) → IsKept full (after_at joins full taken)
    by (Ok part) taken told =
        waits part taken (whole_of (joined_with joins full part))
        (is_repeat (open_join full.shared joins) part.offset (octets_of full.shared.content)) told
    by (Err refused) taken made = absurd made

kept-still : (joins : List Join) (full came : Full) → AreOnce joins → IsKept full joins
    → (have_one_name full.shared came.shared ≡ true → IsNoWhole (answer joins came)) → IsKept full (after joins came)
kept-still joins full came once kept no_whole = by (have_one_name full.shared came.shared) refl
  where
    module_name : have_one_name full.shared came.shared ≡ true → OneName full.shared came.shared
    module_name = one-name full.shared came.shared

    grows : (part : Fragment) → OneName full.shared came.shared → joined_with joins came part ≡ grown kept.join came part.offset
    grows part name =
        ap (λ (o : Option Join). grown (started o came.shared part.total) came part.offset)
        (sym (open-alike full.shared came.shared name joins) ∙ kept.found)

    waits : (part : Fragment) → OneName full.shared came.shared → (whole : Option Full) (repeats : Bool) → IsNoWhole (Ok (answered whole repeats))
        → IsKept full (kept_after whole (others came.shared joins) (joined_with joins came part))
    waits part name (Some whole) repeats made = absurd made
    waits part name None repeats told = record {
      join = grown kept.join came part.offset;
      found = open-alike full.shared came.shared name (others came.shared joins ++ joined_with joins came part ∷ [])
          ∙ open-after joins came part once ∙ ap (λ (j : Join). Some j) (grows part name);
      has = λ p is. has-it-still kept.join full came p.offset part.offset (kept.has p is);
    }

    by_answer : OneName full.shared came.shared → (taken : Result Fragment JoinRefused) → accepted joins came.shared ≡ taken → IsNoWhole (answer_at joins came taken)
        → IsKept full (after_at joins came taken)
    by_answer name (Ok part) taken told =
        waits part name (whole_of (joined_with joins came part))
        (is_repeat (open_join came.shared joins) part.offset (octets_of came.shared.content)) told
    by_answer name (Err refused) taken told = kept

    by : (t : Bool) → have_one_name full.shared came.shared ≡ t → IsKept full (after joins came)
    by true is = by_answer (module_name is) (accepted joins came.shared) refl (no_whole is)
    by false is = record {
      join = kept.join;
      found = stand-after full.shared came joins is ∙ kept.found;
      has = kept.has;
    }

kept-yet : (full : Full) (records : List Full) → IsKeptYet full records → IsKept full (after_records records)
unfolding IsKeptYet after_records
kept-yet full [] none = absurd none
kept-yet full (came ∷ earlier) (inl (same, open_answer)) =
    subst (λ (f : Full). IsKept f (after (after_records earlier) came)) same
    (kept-first (after_records earlier) came (once-records earlier) open_answer)
kept-yet full (came ∷ earlier) (inr (before, no_whole)) =
    kept-still (after_records earlier) full came (once-records earlier) (kept-yet full earlier before) no_whole

pub repeats-bring-nothing : RepeatsBringNothing
repeats-bring-nothing full records yet = by (accepted joins full.shared) refl
  where
    joins : List Join
    joins = after_records records

    kept : IsKept full joins
    kept = kept-yet full records yet

    by : (taken : Result Fragment JoinRefused) → accepted joins full.shared ≡ taken
        → IsOkAnd taken (λ part. brings_new (open_join full.shared joins) part.offset (octets_of full.shared.content) ≡ true) → ⊥
    by (Ok part) taken new =
        let nothing = brings-nothing kept.join full part.offset (kept.has part (is-taken joins full part taken).own) in
        let other : brings_new (Some kept.join) part.offset (octets_of full.shared.content) ≡ true = rw kept.found at new in
        let no : true ≡ false = sym other ∙ nothing in cc
    by (Err refused) taken new = new
