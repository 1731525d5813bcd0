-- Pending pieces whose ids rise: which are left where some end.
use Rattle.std.proofs.Common.{◌≡◌, ℕ, ◌+◌, ◌<◌, ◌≤◌, ◌==◌, ◌&&◌, ◌||◌, Bool, true, false, not, if◌then◌else◌, List, [], ◌∷◌, ◌++◌, length, map, refl, sym, ap, ◌∙◌, subst, arith}
use Rattle.std.proofs.lemmas.Bool.{eqb-true, ne_eqb}
use Rattle.std.proofs.lemmas.List.Elements.{filter_agree}
use Rattle.std.specs.List.{filter}
use Rattle.journal_file.specs.declared.kept.Pending.{Pending}
use Rattle.journal_file.specs.declared.record.How.{How}
use Rattle.journal_file.specs.Values.{KeptValue, RecordValue, a_done}
use Rattle.journal_file.specs.Keeping.{has_id, without_first, with_pending, kept_with, kept_after}
use Rattle.journal_file.specs.Legal.{AreUpTo}
use Rattle.journal_file.proofs.DropLemmas.{drop_first, drop_first-is}
use Rattle.gate_records.specs.Keeping.{octets_of}
use Rattle.peer_records.specs.declared.ending.Ended.{Ended}
use Rattle.peer_records.specs.Records.{all_done}
use Rattle.peer_records.specs.Said.{done_of, ids_ended, is_among, pending_without, AreRising, IsOrdered}

-- ---- filters

pub both-filter : {A : Type 0} (t u : A → Bool) (xs : List A) → filter u (filter t xs) ≡ filter (λ (x : A). t x && u x) xs
both-filter {A = A} t u [] = refl
both-filter {A = A} t u (x ∷ xs) = by (t x) (both-filter t u xs)
  where
    by : (a : Bool) → filter u (filter t xs) ≡ filter (λ (y : A). t y && u y) xs
        → filter u (if a then x ∷ filter t xs else filter t xs) ≡ (if a && u x then x ∷ filter (λ (y : A). t y && u y) xs else filter (λ (y : A). t y && u y) xs)
    by true rest = rw rest refl
    by false rest = rest

-- ---- ids that rise

pub rising-from : (m n : ℕ) (ps : List Pending) → m ≤ n → AreRising n ps → AreRising m ps
rising-from m n [] le are = tt
rising-from m n (p ∷ ps) le (above, are) = (omega (arith, le, above), are)

pub rising-some : (t : Pending → Bool) (n : ℕ) (ps : List Pending) → AreRising n ps → AreRising n (filter t ps)
rising-some t n [] are = tt
rising-some t n (p ∷ ps) (above, are) = by (t p) (rising-some t p.id ps are)
  where
    by : (a : Bool) → AreRising p.id (filter t ps) → AreRising n (if a then p ∷ filter t ps else filter t ps)
    by true rest = (above, rest)
    by false rest = rising-from n p.id (filter t ps) (omega (arith, above)) rest

up-to-some : (t : Pending → Bool) (n : ℕ) (ps : List Pending) → AreUpTo n ps → AreUpTo n (filter t ps)
up-to-some t n [] up = tt
up-to-some t n (p ∷ ps) (le, up) = by (t p) (up-to-some t n ps up)
  where
    by : (a : Bool) → AreUpTo n (filter t ps) → AreUpTo n (if a then p ∷ filter t ps else filter t ps)
    by true rest = (le, rest)
    by false rest = rest

pub rising-push : (n g : ℕ) (ps : List Pending) (p : Pending) → AreRising n ps → AreUpTo g ps → g < p.id → n < p.id → AreRising n (ps ++ p ∷ [])
rising-push n g [] p are up above low = (low, tt)
rising-push n g (q ∷ ps) p (first, are) (le, up) above low = (first, rising-push q.id g ps p are up above (omega (arith, le, above)))

pub up-to-push : (g : ℕ) (ps : List Pending) (p : Pending) → AreUpTo g ps → g ≤ p.id → AreUpTo p.id (ps ++ p ∷ [])
up-to-push g [] p up le = (omega arith, tt)
up-to-push g (q ∷ ps) p (first, up) le = (omega (arith, first, le), up-to-push g ps p up le)

-- ---- one ends

abbrev pub other : ℕ → Pending → Bool
other x p = not (p.id == x)

pub above-all : (x n : ℕ) (ps : List Pending) → x ≤ n → AreRising n ps → filter (other x) ps ≡ ps
above-all x n [] le are = refl
above-all x n (p ∷ ps) le (above, are) =
    let apart : (p.id == x) ≡ false = ne_eqb p.id x (λ e. omega (arith, e, le, above)) in
    rw apart (ap (λ (l : List Pending). p ∷ l) (above-all x p.id ps (omega (arith, le, above)) are))

first-out : (x n : ℕ) (ps : List Pending) → AreRising n ps → drop_first (has_id x) ps ≡ filter (other x) ps
unfolding drop_first
first-out x n [] are = refl
first-out x n (p ∷ ps) (above, are) = by (p.id == x) refl (first-out x p.id ps are)
  where
    by : (t : Bool) → (p.id == x) ≡ t → drop_first (has_id x) ps ≡ filter (other x) ps
        → (if t then ps else p ∷ drop_first (has_id x) ps) ≡ (if not t then p ∷ filter (other x) ps else filter (other x) ps)
    by true is rest = let same = eqb-true p.id x is in sym (above-all x p.id ps (omega (arith, same)) are)
    by false is rest = ap (λ (l : List Pending). p ∷ l) rest

pub one-out : (x n : ℕ) (ps : List Pending) → AreRising n ps → without_first (has_id x) ps ≡ filter (other x) ps
one-out x n ps are = drop_first-is (has_id x) ps ∙ first-out x n ps are

-- ---- many end

neither : (a b : Bool) → (not a && not b) ≡ not (a || b)
neither true b = refl
neither false b = refl

without-one : (x : ℕ) (ids : List ℕ) (ps : List Pending) → pending_without ids (filter (other x) ps) ≡ pending_without (x ∷ ids) ps
without-one x ids ps =
    both-filter (other x) (λ (p : Pending). not (is_among ids p.id)) ps
    ∙ filter_agree (λ (p : Pending). not (p.id == x) && not (is_among ids p.id)) (λ (p : Pending). not (is_among (x ∷ ids) p.id))
    (λ p. neither (p.id == x) (is_among ids p.id)) ps

without-none : (ps : List Pending) → pending_without [] ps ≡ ps
without-none [] = refl
without-none (p ∷ ps) = ap (λ (l : List Pending). p ∷ l) (without-none ps)

-- what is kept after the records of ends
pub ends-kept : (kept : KeptValue) (es : List Ended) → AreRising 0 kept.pending
    → kept_after kept (map done_of es) ≡ with_pending kept (pending_without (ids_ended es) kept.pending) kept.greatest
unfolding kept_with
ends-kept kept [] are = ap (λ (ps : List Pending). with_pending kept ps kept.greatest) (sym (without-none kept.pending))
ends-kept kept (e ∷ es) are =
    let out = one-out e.id 0 kept.pending are in
    let left : KeptValue = with_pending kept (without_first (has_id e.id) kept.pending) kept.greatest in
    ends-kept left es (subst (λ (ps : List Pending). AreRising 0 ps) (sym out) (rising-some (other e.id) 0 kept.pending are))
    ∙ ap (λ (ps : List Pending). with_pending kept ps kept.greatest)
    (ap (λ (ps : List Pending). pending_without (ids_ended es) ps) out ∙ without-one e.id (ids_ended es) kept.pending)

-- where all end in one way
abbrev ended_all : How → List ℕ → List Ended
ended_all how ids = map (λ id. record { id = id; how = how }) ids

all-ended : (how : How) (ids : List ℕ) → all_done how ids ≡ map done_of (ended_all how ids)
all-ended how [] = refl
all-ended how (x ∷ ids) = ap (λ (rs : List RecordValue). a_done x how ∷ rs) (all-ended how ids)

same-ids : (how : How) (ids : List ℕ) → ids_ended (ended_all how ids) ≡ ids
same-ids how [] = refl
same-ids how (x ∷ ids) = ap (λ (xs : List ℕ). x ∷ xs) (same-ids how ids)

pub done-kept : (kept : KeptValue) (how : How) (ids : List ℕ) → AreRising 0 kept.pending
    → kept_after kept (all_done how ids) ≡ with_pending kept (pending_without ids kept.pending) kept.greatest
done-kept kept how ids are =
    ap (λ (rs : List RecordValue). kept_after kept rs) (all-ended how ids)
    ∙ ends-kept kept (ended_all how ids) are
    ∙ ap (λ (xs : List ℕ). with_pending kept (pending_without xs kept.pending) kept.greatest) (same-ids how ids)

pub ordered-some : (kept : KeptValue) (t : Pending → Bool) → IsOrdered kept → IsOrdered (with_pending kept (filter t kept.pending) kept.greatest)
ordered-some kept t is = record { rising = rising-some t 0 kept.pending is.rising; up_to = up-to-some t kept.greatest kept.pending is.up_to }

-- ---- octets

pub octets-some : (t : Pending → Bool) (ps : List Pending) → octets_of (filter t ps) ≤ octets_of ps
unfolding octets_of
octets-some t [] = omega arith
octets-some t (p ∷ ps) = by (t p) (octets-some t ps)
  where
    by : (a : Bool) → octets_of (filter t ps) ≤ octets_of ps → octets_of (if a then p ∷ filter t ps else filter t ps) ≤ length p.block + octets_of ps
    by true rest = omega (arith, rest)
    by false rest = omega (arith, rest)

pub octets-left : (ids : List ℕ) (ps now : List Pending) (octets : ℕ) → octets ≡ octets_of ps → now ≡ pending_without ids ps → octets_of now ≤ octets
octets-left ids ps now octets all is =
    rw is (let less = octets-some (λ (p : Pending). not (is_among ids p.id)) ps in omega (arith, less, all))
