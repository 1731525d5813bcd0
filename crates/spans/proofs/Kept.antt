-- What is kept, and what a contract sees of it, over plain variables.

use Rattle.std.proofs.Common.{◌≡◌, ℕ, ◌^◌, ◌<◌, ◌≤◌, Bool, true, ltb, List, length, sym, ap, ◌∙◌, subst, arith, Result, Ok, Err, IfOk, OnOk, OnErr}
use Rattle.std.specs.List.{count_by}
use Rattle.spans.specs.declared.range.Run.{Run}
use Rattle.spans.specs.Chunks.{AreFilled, joined}
use Rattle.spans.specs.Kept.{IsKept, places_from}
use Rattle.spans.specs.Runs.{AreApart, AreWithin, IsApartFrom, Covers, HasAll}
use Rattle.spans.specs.Places.{AddsRun, with_covered, uncovered_in, all_covered, runs_of, runs_below}
use Rattle.spans.proofs.Places.{length-places, places_from-covered, uncovered_in-covers, AddsRun-places, all_covered-has, runs_of-places}
use Rattle.spans.proofs.Counting.{length-kept}

-- chunks are kept below a limit, and stand for places
pub record StandFor (limit : ℕ) (chunks : List (List Run)) (places : List Bool) : Type 0 where
  pub kept : IsKept limit chunks
  pub view : places_from 0 limit (joined chunks) ≡ places

pub length-of : (limit : ℕ) (chunks : List (List Run)) (places : List Bool) → StandFor limit chunks places → length places ≡ limit
length-of limit chunks places h =
    let a = length-places 0 limit 0 (joined chunks) h.kept.apart h.kept.within (omega arith) (omega arith) in
    omega (arith, a, ap (λ (xs : List Bool). length xs) h.view)

pub IsKept-covered : {E : Type 0} (limit from to : ℕ) (old now : List (List Run)) (places : List Bool) (r : Result ℕ E) → StandFor limit old places → to ≤ length places
    → AreFilled now → IfOk r (Covers from to (joined old) (joined now)) → OnErr r (joined now ≡ joined old) → IsKept limit now
IsKept-covered limit from to old now places (Ok n) h within filled ok err =
    let e = length-of limit old places h in
    record { apart = ok.apart; within = ok.within limit (omega (arith, e)) h.kept.within; filled = filled; small = h.kept.small }
IsKept-covered limit from to old now places (Err x) h within filled ok err =
    record {
      apart = subst (λ (xs : List Run). AreApart 0 xs) (sym err) h.kept.apart;
      within = subst (λ (xs : List Run). AreWithin limit xs) (sym err) h.kept.within;
      filled = filled;
      small = h.kept.small;
    }

pub view-covered : {E : Type 0} (limit from to : ℕ) (old now : List (List Run)) (places : List Bool) (r : Result ℕ E) → StandFor limit old places → from ≤ to → to ≤ length places
    → IfOk r (Covers from to (joined old) (joined now)) → OnOk r (places_from 0 limit (joined now) ≡ with_covered from to places)
view-covered limit from to old now places (Ok n) h le within ok =
    let e = length-of limit old places h in
    places_from-covered limit from to n (joined old) (joined now) le (omega (arith, e)) h.kept.apart h.kept.within ok
    ∙ ap (with_covered from to) h.view
view-covered limit from to old now places (Err x) h le within ok = tt

pub fresh-covered : {E : Type 0} (limit from to : ℕ) (old now : List (List Run)) (places : List Bool) (r : Result ℕ E) → StandFor limit old places → from ≤ to → to ≤ length places
    → IfOk r (Covers from to (joined old) (joined now)) → IfOk r (λ n. n ≡ uncovered_in from to places)
fresh-covered limit from to old now places (Ok n) h le within ok =
    let e = length-of limit old places h in
    uncovered_in-covers limit from to n (joined old) (joined now) le (omega (arith, e)) h.kept.apart h.kept.within ok
    ∙ ap (uncovered_in from to) h.view
fresh-covered limit from to old now places (Err x) h le within ok = tt

pub refused-covered : {E : Type 0} (limit from to : ℕ) (old : List (List Run)) (places : List Bool) (r : Result ℕ E) → StandFor limit old places
    → OnErr r (IsApartFrom from to (joined old)) → OnErr r (AddsRun from to places)
refused-covered limit from to old places (Ok n) h err = tt
refused-covered limit from to old places (Err x) h err =
    subst (λ (xs : List Bool). AddsRun from to xs) h.view (AddsRun-places limit from to (joined old) h.kept.apart err)

pub length-covered : (limit : ℕ) (old now : List (List Run)) (places : List Bool) → StandFor limit old places → IsKept limit now → length (places_from 0 limit (joined now)) ≡ length places
length-covered limit old now places h kept =
    let a = length-places 0 limit 0 (joined now) kept.apart kept.within (omega arith) (omega arith) in
    let e = length-of limit old places h in
    omega (arith, a, e)

-- ---- what the reading calls say

pub all_covered-kept : (limit from to : ℕ) (chunks : List (List Run)) (places : List Bool) (b : Bool) → StandFor limit chunks places → to ≤ length places
    → (b ≡ true → HasAll from to (joined chunks)) → (HasAll from to (joined chunks) → b ≡ true) → b ≡ all_covered from to places
all_covered-kept limit from to chunks places b h within f g =
    let e = length-of limit chunks places h in
    all_covered-has limit from to (joined chunks) b h.kept.apart h.kept.within (omega (arith, e)) f g ∙ ap (all_covered from to) h.view

pub runs_of-kept : (limit : ℕ) (chunks : List (List Run)) (places : List Bool) → StandFor limit chunks places → joined chunks ≡ runs_of places
runs_of-kept limit chunks places h = sym (runs_of-places limit (joined chunks) h.kept.apart) ∙ ap runs_of h.view

pub length-kept_runs : (limit : ℕ) (chunks : List (List Run)) → IsKept limit chunks → length (joined chunks) < 2 ^ 64
length-kept_runs limit chunks kept =
    let le = length-kept limit (joined chunks) kept.apart kept.within in
    omega (arith, le, kept.small)

pub runs_below-kept : (limit to : ℕ) (chunks : List (List Run)) (places : List Bool) → StandFor limit chunks places → count_by (λ r. ltb r.from to) (joined chunks) ≡ runs_below to places
unfolding runs_below
runs_below-kept limit to chunks places h = ap (λ (xs : List Run). count_by (λ r. ltb r.from to) xs) (runs_of-kept limit chunks places h)
