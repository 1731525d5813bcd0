-- How many octets are kept.

use Rattle.std.proofs.Common.{◌≡◌, ℕ, suc, ◌+◌, ◌-◌, ◌*◌, ◌^◌, ◌<◌, ◌≤◌, Bool, true, false, nat_eq, nat_lt, List, [], ◌∷◌, length, Option, None, Some, is_some, ◌==◌, refl, sym, ◌∙◌, ap, subst, arith, if◌then◌else◌}
use Rattle.std.specs.List.{AllByRecursion, IsDistinct, count_by}
use Rattle.std.specs.Map.{keys_of, values_of}
use Rattle.std.proofs.lemmas.Bool.Decides.{nat_tests}
use Rattle.std.proofs.lemmas.List.Sums.{count_by-le-length, sum_by-cons}
use Rattle.std.proofs.Math.Nat.{mul-le-mul_right, suc-mul}
use Rattle.spans.specs.declared.range.Run.{Run}
use Rattle.spans.specs.Places.{is_covered, covered_count, runs_of, runs_from, grown_by}
use Rattle.spans.specs.Runs.{AreApart, places_in}
use Rattle.spans.proofs.PlaceLaws.{runs_from-apart}
use Rattle.ltp_segment.specs.declared.session.TheConstants.{BLOCK_MAX}
use Rattle.ltp_segment.specs.Policy.{PolicyValue}
use Rattle.ltp_session.specs.Cells.{cell}
use Rattle.ltp_session.specs.Receiver.{Receiving}
use Rattle.ltp_session.specs.Table.{find, put}
use Rattle.ltp_session.specs.Views.{SessionValue}
use Rattle.cells.specs.Covers.{Covers}
use Rattle.ltp_receiver.specs.Receiver.{cells_of}
use Rattle.ltp_engine.specs.declared.inbound.Inbound.{Inbound}
use Rattle.ltp_engine.specs.Bounds.{ReceivesAtMost}
use Rattle.ltp_engine.specs.Sessions.{cells_in}
use Rattle.ltp_engine.specs.Tables.{AreLive, table_of, live, live_all, by_number}
use Rattle.ltp_engine.specs.Inbound.{inbound_of}
use Rattle.ltp_engine.proofs.OrderLemmas.{find-by_number}
use Rattle.ltp_engine.proofs.ChangeLemmas.{distinct-live}

-- ---- covered places

count-none : covered_count [] ≡ 0
unfolding covered_count
count-none = refl

count-one : (b : Bool) (places : List Bool) → covered_count (b ∷ places) ≡ (if b then 1 else 0) + covered_count places
unfolding covered_count
count-one b places = sum_by-cons (λ (covered : Bool). if covered then 1 else 0) b places

count-most : (places : List Bool) → covered_count places ≤ length places
unfolding covered_count
count-most places = count_by-le-length (λ (covered : Bool). covered) places

places-grown : (k : ℕ) (rs : List Run) → AreApart (k + 1) rs → places_in (grown_by k rs) ≡ 1 + places_in rs
places-grown k [] apart = omega arith
places-grown k (r ∷ rs) apart = by_test (r.from == k + 1) refl where
  by_test : (beside : Bool) → (r.from == k + 1) ≡ beside
      → places_in (if beside then record { from = k; to = r.to } ∷ rs else record { from = k; to = k + 1 } ∷ (r ∷ rs)) ≡ 1 + places_in (r ∷ rs)
  by_test true is = let at : r.from ≡ k + 1 = grind (arith, nat_tests) in omega (arith, at, apart.1)
  by_test false is = omega arith

places-counted : (k : ℕ) (places : List Bool) → places_in (runs_from k places) ≡ covered_count places
places-counted k [] = sym count-none
places-counted k (false ∷ places) = let rest = places-counted (k + 1) places in let count = count-one false places in omega (arith, rest, count)
places-counted k (true ∷ places) =
    let rest = places-counted (k + 1) places in
    let count = count-one true places in
    let grown = places-grown k (runs_from (k + 1) places) (runs_from-apart (k + 1) places) in
    omega (arith, rest, count, grown)

-- some runs were counted, and others not
pub record CountedSoFar (places : List Bool) (left : List Run) (count : ℕ) : Type 0 where
  pub goes_on : count + places_in left ≡ covered_count places
  pub most : covered_count places ≤ length places

pub counted-start : (places : List Bool) → CountedSoFar places (runs_of places) 0
unfolding runs_of
counted-start places = let all = places-counted 0 places in record { goes_on = omega (arith, all); most = count-most places }

pub counted-more : (places : List Bool) (r : Run) (left : List Run) (count : ℕ) → CountedSoFar places (r ∷ left) count → CountedSoFar places left (count + (r.to - r.from))
counted-more places r left count so_far = record { goes_on = omega (arith, so_far.goes_on); most = so_far.most }

pub counted-below : (places : List Bool) (r : Run) (left : List Run) (count : ℕ) → CountedSoFar places (r ∷ left) count → count + (r.to - r.from) ≤ length places
counted-below places r left count so_far = omega (arith, so_far.goes_on, so_far.most)

pub counted-end : (places : List Bool) (count : ℕ) → CountedSoFar places [] count → count ≡ covered_count places
counted-end places count so_far = omega (arith, so_far.goes_on)

-- ---- filled cells

count-same : (places : List Bool) (cells : List (Option ℕ)) → length cells ≤ length places → ((k : ℕ) → is_covered places k ≡ is_some (cell cells k))
    → covered_count places ≡ count_by is_some cells
count-same [] [] within each = count-none
count-same [] (x ∷ cells) within each = absurd (omega (arith, within))
count-same (b ∷ places) [] within each =
    let rest : covered_count places ≡ 0 = count-same places [] (omega arith) (λ k. each (suc k)) in
    let none : b ≡ false = each 0 in
    let one : covered_count (b ∷ places) ≡ covered_count (false ∷ places) = ap (λ x. covered_count (x ∷ places)) none in
    let more = count-one false places in
    let all : covered_count (b ∷ places) ≡ 0 = omega (arith, one, more, rest) in
    all
count-same (b ∷ places) (x ∷ cells) within each =
    let rest = count-same places cells (omega (arith, within)) (λ k. each (suc k)) in
    let here : b ≡ is_some x = each 0 in
    count-one b places ∙ (rw (here, rest) refl ∙ sym (sum_by-cons (λ (c : Option ℕ). if is_some c then 1 else 0) x cells))

pub count-covers : {most : ℕ} (places : List Bool) (cells : List (Option ℕ)) → Covers most places cells → covered_count places ≡ count_by is_some cells
count-covers places cells covers = count-same places cells (subst (λ n. length cells ≤ n) (sym covers.limit) covers.within) covers.each

-- ---- all sessions

cells-cons : (e : ℕ × Receiving) (t : List (ℕ × Receiving)) → cells_in (e ∷ t) ≡ count_by is_some e.1.cells + cells_in t
cells-cons e t = sum_by-cons (λ (entry : ℕ × Receiving). count_by is_some entry.1.cells) e t

cells-put : (n : ℕ) (r : Receiving) (t : List (ℕ × Receiving)) → find n t ≡ None → cells_in (put n r t) ≡ count_by is_some r.cells + cells_in t
unfolding find put
cells-put n r [] absent = cells-cons (n, r) []
cells-put n r (e ∷ t) absent = by_tests (e.0 == n) (nat_lt n e.0) absent (λ h. cells-put n r t h) where
  by_tests : (same less : Bool) → (if same then Some e.1 else find n t) ≡ None → (find n t ≡ None → cells_in (put n r t) ≡ count_by is_some r.cells + cells_in t)
      → cells_in (if same then (n, r) ∷ t else if less then (n, r) ∷ (e ∷ t) else e ∷ put n r t) ≡ count_by is_some r.cells + cells_in (e ∷ t)
  by_tests true less absent rest = absurd (cc)
  by_tests false true absent rest = cells-cons (n, r) (e ∷ t)
  by_tests false false absent rest = let more = rest absent in let after_it = cells-cons e (put n r t) in let before = cells-cons e t in omega (arith, more, after_it, before)

absent-first : (n : ℕ) (t : List (ℕ × Receiving)) → AllByRecursion (λ k. nat_eq n k ≡ false) (keys_of t) → find n t ≡ None
unfolding find
absent-first n [] apart = refl
absent-first n (e ∷ t) apart = let rest = absent-first n t apart.1 in rw (flipped e.0 apart.0) rest where
  flipped : (m : ℕ) → nat_eq n m ≡ false → (m == n) ≡ false
  flipped m is = grind (arith, nat_tests)

cells-by_number : (t : List (ℕ × Receiving)) → IsDistinct nat_eq (keys_of t) → cells_in (by_number t) ≡ cells_in t
unfolding by_number IsDistinct
cells-by_number [] distinct = refl
cells-by_number (e ∷ t) distinct =
    let rest : cells_in (by_number t) ≡ cells_in t = cells-by_number t distinct.1 in
    let more = cells-put e.0 e.1 (by_number t) (find-by_number e.0 t ∙ absent-first e.0 t distinct.0) in
    let one = cells-cons e t in
    omega (arith, more, rest, one)

cells-most : (most : ℕ) (t : List (ℕ × Receiving)) → AllByRecursion (ReceivesAtMost most) t → cells_in t ≤ length t * most
cells-most most [] all = omega arith
cells-most most (e ∷ t) all =
    let rest = cells-most most t all.1 in
    let here = count_by-le-length is_some e.1.cells in
    let one = cells-cons e t in
    let size : length (e ∷ t) * most ≡ length t * most + most = suc-mul (length t) most in
    omega (arith, rest, here, all.0, one, size)

cells-few : (t : List (ℕ × Receiving)) → length t < 2 ^ 32 → AllByRecursion (ReceivesAtMost BLOCK_MAX) t → cells_in t < 2 ^ 64
cells-few t few all = let most = cells-most BLOCK_MAX t all in let much = mul-le-mul_right BLOCK_MAX few in omega (arith, most, much)

-- some sessions were counted, and others not
pub record CellsSoFar (o : ℕ) (p : PolicyValue) (all : List (ℕ × Receiving)) (left : List (SessionValue Receiving)) (octets : ℕ) : Type 0 where
  pub rest : List (ℕ × Receiving)
  pub left_is : left ≡ values_of (live_all o p rest)
  pub goes_on : octets + cells_in rest ≡ cells_in all
  pub few : cells_in all < 2 ^ 64

pub cells-start : (o : ℕ) (p : PolicyValue) (i : Inbound) (left : List (SessionValue Receiving)) → AreLive o p i.receivers.entries → IsDistinct nat_eq (keys_of i.receivers.entries)
    → length (inbound_of i).receivers < 2 ^ 32 → AllByRecursion (ReceivesAtMost BLOCK_MAX) (inbound_of i).receivers
    → left ≡ values_of i.receivers.entries → CellsSoFar o p (inbound_of i).receivers left 0
cells-start o p i left are_live distinct few all is = record {
  rest = table_of i.receivers.entries;
  left_is = is ∙ ap (λ es. values_of es) are_live;
  goes_on = let same = cells-by_number (table_of i.receivers.entries) (distinct-live o p i.receivers.entries are_live distinct) in omega (arith, same);
  few = cells-few (inbound_of i).receivers few all;
}

pub record CellsStep (o : ℕ) (p : PolicyValue) (all : List (ℕ × Receiving)) (v : SessionValue Receiving) (left : List (SessionValue Receiving)) (octets : ℕ) : Type 0 where
  pub whole : v.spent ≡ false
  pub room : octets + count_by is_some (cells_of v.kept) < 2 ^ 64
  pub next : CellsSoFar o p all left (octets + count_by is_some (cells_of v.kept))

pub cells-step : (o : ℕ) (p : PolicyValue) (all : List (ℕ × Receiving)) (v : SessionValue Receiving) (left : List (SessionValue Receiving)) (octets : ℕ)
    → CellsSoFar o p all (v ∷ left) octets → CellsStep o p all v left octets
cells-step o p all v left octets so_far = by_rest so_far.rest so_far.left_is so_far.goes_on so_far.few where
  by_rest : (rest : List (ℕ × Receiving)) → v ∷ left ≡ values_of (live_all o p rest) → octets + cells_in rest ≡ cells_in all → cells_in all < 2 ^ 64
      → CellsStep o p all v left octets
  by_rest [] is goes_on few = absurd (cc)
  by_rest (e ∷ rest) is goes_on few =
      let here : v ≡ live o p e.0 e.1 = cc in
      let after_it : left ≡ values_of (live_all o p rest) = cc in
      let one = cells-cons e rest in
      subst (λ (w : SessionValue Receiving). CellsStep o p all w left octets) (sym here) (record {
        whole = refl;
        room = omega (arith, goes_on, few, one);
        next = record { rest = rest; left_is = after_it; goes_on = omega (arith, goes_on, one); few = few };
      })

pub cells-end : (o : ℕ) (p : PolicyValue) (all : List (ℕ × Receiving)) (octets : ℕ) → CellsSoFar o p all [] octets → octets ≡ cells_in all
cells-end o p all octets so_far = by_rest so_far.rest so_far.left_is so_far.goes_on where
  by_rest : (rest : List (ℕ × Receiving)) → [] ≡ values_of (live_all o p rest) → octets + cells_in rest ≡ cells_in all → octets ≡ cells_in all
  by_rest [] is goes_on = omega (arith, goes_on)
  by_rest (e ∷ rest) is goes_on = absurd (cc)
