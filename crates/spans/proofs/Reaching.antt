-- The runs from a place on, over plain variables.

use Rattle.std.proofs.Common.{◌≡◌, ℕ, zero, suc, ◌+◌, ◌<◌, ◌≤◌, Bool, true, ◌||◌, List, [], ◌∷◌, ◌++◌, length, drop, get_or, leb, Some, All, filter, refl, ap, ◌∙◌, subst, arith, inl, inr}
use Rattle.std.proofs.lemmas.Bool.{cases_lt, le-leb, lt-leb, leb-true}
use Rattle.std.proofs.lemmas.List.Elements.{All-filter, filter_passes}
use Rattle.std.proofs.lemmas.Option.{slice_get-get_or, slice_get_within, get_or_from_slice_get}
use Rattle.std.specs.List.{slice_get}
use Rattle.spans.specs.declared.range.Run.{Run}
use Rattle.spans.specs.Chunks.{AreFilled, IsAhead, from_there}
use Rattle.spans.specs.Laws.{IsMaximal, RunsReachOn}
use Rattle.spans.specs.Places.{is_in, runs_of, runs_reaching}
use Rattle.spans.specs.Runs.{AreApart, EndBefore, FirstReaches, has_place}
use Rattle.spans.proofs.Apart.{AreApart-lower}
use Rattle.spans.proofs.Covering.{is_in-false}
use Rattle.spans.proofs.PlaceLaws.{IsMaximal-found, runs_of-apart, runs_of-has}

-- ---- the runs of some chunks from a place on

pub IsAhead-there : (chunks : List (List Run)) (c at : ℕ) → AreFilled chunks → (c < length chunks → at < length (get_or chunks c [])) → IsAhead (drop c chunks) at
IsAhead-there [] zero at filled inside = tt
IsAhead-there [] (suc c) at filled inside = tt
IsAhead-there (k ∷ ks) zero at filled inside = (inside (omega arith), filled.1)
IsAhead-there (k ∷ ks) (suc c) at filled inside = IsAhead-there ks c at filled.1 (λ l. inside (omega arith))

pub from_there-drop : (chunks : List (List Run)) (c at : ℕ) → from_there (drop c chunks) 0 at ≡ from_there chunks c at
from_there-drop [] zero at = refl
from_there-drop [] (suc c) at = refl
from_there-drop (k ∷ ks) zero at = refl
from_there-drop (k ∷ ks) (suc c) at = from_there-drop ks c at

-- ---- those that end at or after a place

pub reaching-before : (place : ℕ) (xs ys : List Run) → EndBefore place xs → filter (λ r. leb place r.to) (xs ++ ys) ≡ filter (λ r. leb place r.to) ys
reaching-before place [] ys ends = refl
reaching-before place (x ∷ xs) ys ends = rw (lt-leb place x.to ends.0) (reaching-before place xs ys ends.1)

reaching-all : (place low : ℕ) (ys : List Run) → AreApart low ys → place ≤ low → filter (λ r. leb place r.to) ys ≡ ys
reaching-all place low [] apart le = refl
reaching-all place low (y ∷ ys) apart le =
    let rest = reaching-all place (y.to + 1) ys apart.2 (omega (arith, apart.0, apart.1)) in
    rw (le-leb place y.to (omega (arith, apart.0, apart.1))) (ap (λ zs. y ∷ zs) rest)

pub reaching-first : (place low : ℕ) (ys : List Run) → AreApart low ys → FirstReaches place ys → filter (λ r. leb place r.to) ys ≡ ys
reaching-first place low [] apart reaches = refl
reaching-first place low (y ∷ ys) apart reaches =
    rw (le-leb place y.to reaches) (ap (λ zs. y ∷ zs) (reaching-all place (y.to + 1) ys apart.2 (omega (arith, reaches))))

reaching-apart : (place low : ℕ) (xs : List Run) → AreApart low xs → AreApart low (filter (λ r. leb place r.to) xs)
reaching-apart place low [] apart = tt
reaching-apart place low (x ∷ xs) apart =
    let rest = reaching-apart place (x.to + 1) xs apart.2 in
    elim (cases_lt x.to place) [
      | inl under ↦
          rw (lt-leb place x.to under)
          (AreApart-lower (x.to + 1) low (filter (λ r. leb place r.to) xs) (omega (arith, apart.0, apart.1)) rest)
      | inr past ↦ rw (le-leb place x.to past) (apart.0, apart.1, rest)
    ]

reaching-has : (place k : ℕ) (xs : List Run) → place ≤ k → has_place (filter (λ r. leb place r.to) xs) k ≡ has_place xs k
reaching-has place k [] le = refl
reaching-has place k (x ∷ xs) le =
    let rest = reaching-has place k xs le in
    elim (cases_lt x.to place) [
      | inl under ↦ rw (lt-leb place x.to under, is_in-false x.from x.to k (λ low high. omega (arith, under, le, high))) rest
      | inr past ↦ rw (le-leb place x.to past) (ap (λ t. is_in x.from x.to k || t) rest)
    ]

-- ---- each of them

all-from : (P : Run → Type 0) (xs : List Run) → ((i : ℕ) (r : Run) → slice_get xs i ≡ Some r → P r) → All P xs
all-from P xs h k d below = h k (get_or xs k d) (slice_get-get_or xs k d below)

all-at : (P : Run → Type 0) (xs : List Run) (i : ℕ) (r : Run) → All P xs → slice_get xs i ≡ Some r → P r
all-at P xs i r all found = subst P (get_or_from_slice_get xs i r r found) (all i r (slice_get_within xs i r found))

-- the runs from a place on are maximal covered ranges
pub reaching-maximal : (place : ℕ) (places : List Bool) → All (λ r. IsMaximal r places) (runs_reaching place places)
unfolding runs_reaching
reaching-maximal place places =
    All-filter (λ r. leb place r.to) (λ r. IsMaximal r places) (runs_of places)
    (all-from (λ r. IsMaximal r places) (runs_of places) (λ i r found. IsMaximal-found places i r found))

pub runs_reach_on : RunsReachOn
unfolding runs_reaching
runs_reach_on place places = (
  λ i r found.
      let reaches = all-at (λ r. leb place r.to ≡ true) (filter (λ r. leb place r.to) (runs_of places)) i r (filter_passes (λ r. leb place r.to) (runs_of places)) found in
      (all-at (λ r. IsMaximal r places) (runs_reaching place places) i r (reaching-maximal place places) found, leb-true place r.to reaches),
  reaching-apart place 0 (runs_of places) (runs_of-apart places),
  λ k le. reaching-has place k (runs_of places) le ∙ runs_of-has places k,
)
