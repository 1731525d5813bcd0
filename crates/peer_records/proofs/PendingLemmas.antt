-- How often an id is among those of pending pieces.
use Rattle.std.proofs.Common.{◌≡◌, ℕ, ◌+◌, ◌-◌, ◌<◌, ◌≤◌, ◌==◌, ◌||◌, Bool, true, false, if◌then◌else◌, List, [], ◌∷◌, ◌++◌, refl, sym, ap, ◌∙◌, arith}
use Rattle.std.proofs.lemmas.Bool.{eqb-true, ne_eqb}
use Rattle.std.specs.List.{list_any}
use Rattle.journal_file.specs.declared.kept.Pending.{Pending}
use Rattle.journal_file.specs.Keeping.{has_id, is_pending, without_first}
use Rattle.journal_file.specs.Anew.{AreBegun}
use Rattle.journal_file.proofs.DropLemmas.{drop_first, drop_first-is}
use Rattle.gate_records.proofs.PendingLemmas.{pending-any}
use Rattle.peer_records.specs.Keeping.{ids_pending, one_if, times}

abbrev either : Bool → Bool → Bool
either a b = a || b

-- ---- one is pending where its id is among theirs

any-some : (id : ℕ) (ps : List Pending) → list_any (has_id id) ps ≡ true → 0 < times id (ids_pending ps)
unfolding times
any-some id [] any = absurd (cc)
any-some id (p ∷ ps) any = by (p.id == id) any (λ more. any-some id ps more)
  where
    by : (t : Bool) → either t (list_any (has_id id) ps) ≡ true → (list_any (has_id id) ps ≡ true → 0 < times id (ids_pending ps))
        → 0 < one_if t + times id (ids_pending ps)
    by true any rest = omega arith
    by false any rest = let more = rest any in omega (arith, more)

some-any : (id : ℕ) (ps : List Pending) → 0 < times id (ids_pending ps) → list_any (has_id id) ps ≡ true
unfolding times
some-any id [] some = absurd (omega (arith, some))
some-any id (p ∷ ps) some = by (p.id == id) some (λ more. some-any id ps more)
  where
    by : (t : Bool) → 0 < one_if t + times id (ids_pending ps) → (0 < times id (ids_pending ps) → list_any (has_id id) ps ≡ true)
        → either t (list_any (has_id id) ps) ≡ true
    by true some rest = refl
    by false some rest = rest (omega (arith, some))

pub pending-some : (id : ℕ) (ps : List Pending) → is_pending id ps ≡ true → 0 < times id (ids_pending ps)
pending-some id ps there = any-some id ps (sym (pending-any id ps) ∙ there)

pub some-pending : (id : ℕ) (ps : List Pending) → 0 < times id (ids_pending ps) → is_pending id ps ≡ true
some-pending id ps some = pending-any id ps ∙ some-any id ps some

-- ---- ids rise, so none is there twice

above-none : (n id : ℕ) (ps : List Pending) → id ≤ n → AreBegun n ps → times id (ids_pending ps) ≡ 0
unfolding times
above-none n id [] le are = refl
above-none n id (p ∷ ps) le (above, small, short, moment, rest) =
    let other : (p.id == id) ≡ false = ne_eqb p.id id (λ e. omega (arith, e, le, above)) in
    let none = above-none p.id id ps (omega (arith, le, above)) rest in
    rw other (omega (arith, none))

pub rising-once : (n id : ℕ) (ps : List Pending) → AreBegun n ps → times id (ids_pending ps) ≤ 1
unfolding times
rising-once n id [] are = omega arith
rising-once n id (p ∷ ps) (above, small, short, moment, rest) = by (p.id == id) refl (rising-once p.id id ps rest)
  where
    by : (t : Bool) → (p.id == id) ≡ t → times id (ids_pending ps) ≤ 1 → one_if t + times id (ids_pending ps) ≤ 1
    by true is once =
        let same = eqb-true p.id id is in
        let none = above-none p.id id ps (omega (arith, same)) rest in omega (arith, none)
    by false is once = omega (arith, once)

-- ---- one ends, or one more begins

first-gone : (id x : ℕ) (ps : List Pending) → times id (ids_pending (drop_first (has_id x) ps)) ≡ times id (ids_pending ps) - one_if (x == id)
unfolding times drop_first
first-gone id x [] = omega arith
first-gone id x (p ∷ ps) = by (p.id == x) refl (x == id) refl (first-gone id x ps)
  where
    by : (t : Bool) → (p.id == x) ≡ t → (u : Bool) → (x == id) ≡ u → times id (ids_pending (drop_first (has_id x) ps)) ≡ times id (ids_pending ps) - one_if (x == id)
        → times id (ids_pending (if t then ps else p ∷ drop_first (has_id x) ps)) ≡ (one_if (p.id == id) + times id (ids_pending ps)) - one_if u
    by true same u is rest = let there : (p.id == id) ≡ u = ap (λ (n : ℕ). n == id) (eqb-true p.id x same) ∙ is in rw there (omega arith)
    by false apart true is rest =
        let other : (p.id == id) ≡ false = sym (ap (λ (n : ℕ). p.id == n) (eqb-true x id is)) ∙ apart in
        let less = rest ∙ ap (λ (b : Bool). times id (ids_pending ps) - one_if b) is in rw other (omega (arith, less))
    by false apart false is rest = let less = rest ∙ ap (λ (b : Bool). times id (ids_pending ps) - one_if b) is in omega (arith, less)

pub one-gone : (id x : ℕ) (ps : List Pending) → times id (ids_pending (without_first (has_id x) ps)) ≡ times id (ids_pending ps) - one_if (x == id)
one-gone id x ps = ap (λ (l : List Pending). times id (ids_pending l)) (drop_first-is (has_id x) ps) ∙ first-gone id x ps

pub pending-append : (id : ℕ) (ps qs : List Pending) → times id (ids_pending (ps ++ qs)) ≡ times id (ids_pending ps) + times id (ids_pending qs)
unfolding times
pending-append id [] qs = omega arith
pending-append id (p ∷ ps) qs = let rest = pending-append id ps qs in omega (arith, rest)
