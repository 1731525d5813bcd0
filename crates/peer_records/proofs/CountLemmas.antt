-- How often an id is among ids, and among those of pieces that wait or are in sessions.
use Rattle.std.proofs.Common.{◌≡◌, ℕ, ◌+◌, ◌==◌, ◌≤◌, Bool, true, false, not, if◌then◌else◌, List, [], ◌∷◌, ◌++◌, take, drop, None, Some, refl, sym, ap, ◌∙◌, arith}
use Rattle.std.proofs.lemmas.List.{take-append-drop}
use Rattle.std.proofs.lemmas.Bool.{eq-eqb}
use Rattle.std.specs.List.{filter}
use Rattle.gate_cases.specs.declared.face.Face.{Face}
use Rattle.gate_records.specs.declared.named.Named.{Named}
use Rattle.gate_records.specs.Named.{is_of}
use Rattle.peer_records.specs.Keeping.{Waiting, ids_in, ids_named, one_if, times}
use Rattle.peer_records.specs.Records.{ids_of, others_than}

pub times-append : (id : ℕ) (xs ys : List ℕ) → times id (xs ++ ys) ≡ times id xs + times id ys
unfolding times
times-append id [] ys = omega arith
times-append id (x ∷ xs) ys = let rest = times-append id xs ys in omega (arith, rest)

pub times-self : (x : ℕ) (xs : List ℕ) → times x (x ∷ xs) ≡ 1 + times x xs
unfolding times
times-self x xs = rw (eq-eqb x x refl) refl

-- ---- those that wait

pub waits-append : (id : ℕ) (xs ys : Waiting) → times id (ids_in (xs ++ ys)) ≡ times id (ids_in xs) + times id (ids_in ys)
unfolding times
waits-append id [] ys = omega arith
waits-append id (None ∷ xs) ys = waits-append id xs ys
waits-append id (Some x ∷ xs) ys = let rest = waits-append id xs ys in omega (arith, rest)

pub waits-apart : (id n : ℕ) (xs : Waiting) → times id (ids_in xs) ≡ times id (ids_in (take n xs)) + times id (ids_in (drop n xs))
waits-apart id n xs =
    ap (λ (l : Waiting). times id (ids_in l)) (sym (take-append-drop n xs)) ∙ waits-append id (take n xs) (drop n xs)

-- ---- those in sessions

pub named-append : (id : ℕ) (xs ys : List Named) → times id (ids_named (xs ++ ys)) ≡ times id (ids_named xs) + times id (ids_named ys)
unfolding times
named-append id [] ys = omega arith
named-append id (n ∷ xs) ys = let rest = named-append id xs ys in omega (arith, rest)

-- those of a session, and the others
pub named-apart : (id : ℕ) (face : Face) (session : ℕ) (ns : List Named)
    → times id (ids_named ns) ≡ times id (ids_of face session ns) + times id (ids_named (others_than face session ns))
unfolding times
named-apart id face session [] = refl
named-apart id face session (n ∷ ns) = by (is_of face session n) (named-apart id face session ns)
  where
    by : (t : Bool) → times id (ids_named ns) ≡ times id (ids_of face session ns) + times id (ids_named (others_than face session ns))
        → one_if (n.id == id) + times id (ids_named ns)
        ≡ times id (ids_named (if t then n ∷ filter (is_of face session) ns else filter (is_of face session) ns))
        + times id (ids_named (if not t then n ∷ others_than face session ns else others_than face session ns))
    by true rest = omega (arith, rest)
    by false rest = omega (arith, rest)

-- those of a session are among those of another, or among what that leaves
pub named-within : (id : ℕ) (f g : Face) (s r : ℕ) (ns : List Named)
    → times id (ids_of f s ns) ≤ times id (ids_of g r ns) + times id (ids_of f s (others_than g r ns))
unfolding times
named-within id f g s r [] = omega arith
named-within id f g s r (n ∷ ns) = by (is_of f s n) refl (is_of g r n) (named-within id f g s r ns)
  where
    by : (t : Bool) → is_of f s n ≡ t → (u : Bool) → times id (ids_of f s ns) ≤ times id (ids_of g r ns) + times id (ids_of f s (others_than g r ns))
        → times id (ids_named (if t then n ∷ filter (is_of f s) ns else filter (is_of f s) ns))
        ≤ times id (ids_named (if u then n ∷ filter (is_of g r) ns else filter (is_of g r) ns))
        + times id (ids_named (filter (is_of f s) (if not u then n ∷ others_than g r ns else others_than g r ns)))
    by true is true rest = omega (arith, rest)
    by true is false rest = rw is (omega (arith, rest))
    by false is true rest = omega (arith, rest)
    by false is false rest = rw is (omega (arith, rest))
