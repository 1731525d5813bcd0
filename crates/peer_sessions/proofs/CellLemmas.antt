-- How many red octets are kept of all receiving sessions.

use Rattle.std.proofs.Common.{◌≡◌, ℕ, ◌+◌, ◌≤◌, Bool, true, false, nat_lt, List, [], ◌∷◌, None, Some, is_some, ◌==◌, refl, ap, arith, if◌then◌else◌}
use Rattle.std.specs.List.{count_by}
use Rattle.std.proofs.lemmas.Bool.Decides.{nat_tests}
use Rattle.std.proofs.lemmas.List.Sums.{sum_by-cons}
use Rattle.ltp_session.specs.Step.{Change, stays, keeps, ends}
use Rattle.ltp_session.specs.Receiver.{Receiving}
use Rattle.ltp_session.specs.Table.{find, put, without, AreAscending, ticked, then_kept}
use Rattle.ltp_laws.proofs.TableLemmas.{find_below}
use Rattle.ltp_engine.specs.Sessions.{cells_in}
use Rattle.peer_sessions.proofs.AnswerLemmas.{octets_of, kept_octets}

cells-cons : (e : ℕ × Receiving) (es : List (ℕ × Receiving)) → cells_in (e ∷ es) ≡ octets_of e.1.cells + cells_in es
cells-cons e es = sum_by-cons (λ (entry : ℕ × Receiving). count_by is_some entry.1.cells) e es

pub cells-without : (n : ℕ) (es : List (ℕ × Receiving)) → cells_in (without n es) ≤ cells_in es
unfolding without
cells-without n [] = omega arith
cells-without n (e ∷ es) = by_test (e.0 == n) (cells-without n es) where
  by_test : (same : Bool) → cells_in (without n es) ≤ cells_in es → cells_in (if same then without n es else e ∷ without n es) ≤ cells_in (e ∷ es)
  by_test true rest = let all = cells-cons e es in omega (arith, all, rest)
  by_test false rest = let all = cells-cons e es in let left = cells-cons e (without n es) in omega (arith, all, left, rest)

pub cells-put : (n low : ℕ) (r : Receiving) (es : List (ℕ × Receiving)) → AreAscending low es → cells_in (put n r es) + kept_octets (find n es) ≤ cells_in es + octets_of r.cells
unfolding find put
cells-put n low r [] up = let all = cells-cons (n, r) [] in omega (arith, all)
cells-put n low r (e ∷ es) up = by_tests (e.0 == n) (nat_lt n e.0) refl (cells-put n (e.0 + 1) r es up.1) where
  by_tests : (same less : Bool) → nat_lt n e.0 ≡ less → cells_in (put n r es) + kept_octets (find n es) ≤ cells_in es + octets_of r.cells
      → cells_in (if same then (n, r) ∷ es else if less then (n, r) ∷ (e ∷ es) else e ∷ put n r es) + kept_octets (if same then Some e.1 else find n es) ≤ cells_in (e ∷ es) + octets_of r.cells
  by_tests true less is rest = let old = cells-cons e es in let new = cells-cons (n, r) es in omega (arith, old, new)
  by_tests false true is rest =
      let none : find n es ≡ None = find_below n (e.0 + 1) es (grind (arith, nat_tests)) up.1 in
      let zero : kept_octets (find n es) ≡ 0 = ap kept_octets none in
      let before = cells-cons (n, r) (e ∷ es) in omega (arith, before, zero)
  by_tests false false is rest = let old = cells-cons e es in let more = cells-cons e (put n r es) in omega (arith, old, more, rest)

pub cells-ticked : (change : Receiving → Change Receiving) (es : List (ℕ × Receiving)) → ((r s : Receiving) → change r ≡ keeps s → octets_of s.cells ≤ octets_of r.cells)
    → cells_in (ticked change es) ≤ cells_in es
unfolding ticked
cells-ticked change [] fewer = omega arith
cells-ticked change (e ∷ es) fewer = by_change (change e.1) refl (cells-ticked change es fewer) where
  by_change : (c : Change Receiving) → change e.1 ≡ c → cells_in (ticked change es) ≤ cells_in es → cells_in (then_kept e c (ticked change es)) ≤ cells_in (e ∷ es)
  by_change stays is rest = let all = cells-cons e es in let left = cells-cons e (ticked change es) in omega (arith, all, left, rest)
  by_change (keeps s) is rest = let all = cells-cons e es in let left = cells-cons (e.0, s) (ticked change es) in let few = fewer e.1 s is in omega (arith, all, left, few, rest)
  by_change ends is rest = let all = cells-cons e es in omega (arith, all, rest)
