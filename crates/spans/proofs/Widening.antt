-- A run that grows over those after a place, over plain variables.

use Rattle.std.proofs.Common.{◌≡◌, ℕ, zero, suc, ◌+◌, ◌-◌, ◌<◌, ◌≤◌, List, [], ◌∷◌, ◌++◌, length, take, drop, get_or, set, min, max, sym, ap, ◌∙◌, subst, arith, append_assoc, add-one}
use Rattle.std.proofs.lemmas.List.{get_or_read, drop-set-lt, drop_at, take_at, length-take-le, length-append, take_more, same_from_push, set_split}
use Rattle.spans.specs.declared.range.Run.{Run}
use Rattle.spans.specs.declared.growth.Growth.{Growth}
use Rattle.spans.specs.Chunks.{AreFilled, joined, before, from_there}
use Rattle.spans.specs.Growing.{grown_over, left_after, widened, widening, grown_first}
use Rattle.spans.specs.Runs.{AreApart}
use Rattle.spans.proofs.Apart.{AreApart-left, AreApart-right}
use Rattle.spans.proofs.Grows.{left_after-append, grown_over-append, AreApart-grown}
use Rattle.spans.proofs.Joined.{joined-place, from_there-split, joined-set, AreFilled-set}
use Rattle.spans.proofs.Split.{from_there-read}

-- ---- the chunk of the place, and those after it

pub from_there-at : (chunks : List (List Run)) (c i : ℕ) (k : List Run) → c < length chunks → k ≡ get_or chunks c k → from_there chunks c i ≡ drop i k ++ joined (drop (c + 1) chunks)
from_there-at chunks c i k below read =
    from_there-split chunks c i below
    ∙ (ap (λ xs. drop i xs ++ joined (drop (suc c) chunks)) (sym (get_or_read chunks c k below read []))
    ∙ ap (λ n. drop i k ++ joined (drop n chunks)) (sym (add-one c)))

pub drop-past : (chunks : List (List Run)) (c : ℕ) (k : List Run) → drop (c + 1) (set chunks c k) ≡ drop (c + 1) chunks
drop-past chunks c k = drop-set-lt (c + 1) chunks c k (omega arith)

pub before-like : (now chunks : List (List Run)) (c i : ℕ) (k : List Run) → c < length chunks
    → take (suc c) now ≡ take (suc c) (set chunks c k) → take i k ≡ take i (get_or chunks c []) → before now c i ≡ before chunks c i
before-like now [] c i k below same front = absurd (omega arith)
before-like [] (m ∷ ms) zero i k below same front = absurd (cc)
before-like [] (m ∷ ms) (suc c) i k below same front = absurd (cc)
before-like (n ∷ ns) (m ∷ ms) zero i k below same front =
    let head : n ≡ k = cc in ap (take i) head ∙ front
before-like (n ∷ ns) (m ∷ ms) (suc c) i k below same front =
    let rest = before-like ns ms c i k (omega arith) (cc) front in
    let head : n ≡ m = cc in
    ap (λ xs. xs ++ before ns c i) head ∙ ap (λ xs. m ++ xs) rest

pub get_or-like : (now chunks : List (List Run)) (c : ℕ) (k : List Run) → c < length chunks
    → take (suc c) now ≡ take (suc c) (set chunks c k) → (c < length now) × (get_or now c [] ≡ k)
get_or-like now [] c k below same = absurd (omega arith)
get_or-like [] (m ∷ ms) zero k below same = absurd (cc)
get_or-like [] (m ∷ ms) (suc c) k below same = absurd (cc)
get_or-like (n ∷ ns) (m ∷ ms) zero k below same = (omega arith, cc)
get_or-like (n ∷ ns) (m ∷ ms) (suc c) k below same =
    let rest = get_or-like ns ms c k (omega arith) (cc) in (omega (arith, rest.0), rest.1)

-- what is left once a run grew over those from a place on
pub record Absorbed (to : ℕ) (first last : Growth) (old now : List (List Run)) (c i : ℕ) : Type 0 where
  pub within : c < length now
  pub at : i ≤ length (get_or now c [])
  pub before : before now c i ≡ before old c i
  pub left : from_there now c i ≡ left_after to (from_there old c i)
  pub grown : last ≡ grown_over to first (from_there old c i)

pub Absorbed-made : (to : ℕ) (first mid last : Growth) (old now : List (List Run)) (c i : ℕ) (k made : List Run) → c < length old → k ≡ get_or old c k → i ≤ length k
    → AreApart (first.end + 1) (from_there old c i)
    → made ≡ take i k ++ left_after to (drop i k) → mid ≡ grown_over to first (drop i k)
    → take (c + 1) now ≡ take (c + 1) (set old c made)
    → joined (drop (c + 1) now) ≡ left_after to (joined (drop (c + 1) (set old c made)))
    → last ≡ grown_over to mid (joined (drop (c + 1) (set old c made)))
    → Absorbed to first last old now c i
Absorbed-made to first mid last old now c i k made below read within apart made-is mid-is kept left-is last-is =
    let e = from_there-at old c i k below read in
    let ahead = subst (λ (xs : List Run). AreApart (first.end + 1) xs) e apart in
    let rest = joined (drop (c + 1) old) in
    let same : take (suc c) now ≡ take (suc c) (set old c made) = subst (λ (n : ℕ). take n now ≡ take n (set old c made)) (add-one c) kept in
    let like = get_or-like now old c made below same in
    let is = get_or_read old c k below read [] in
    let len = length-take-le i k within in
    let front : take i made ≡ take i k = ap (take i) made-is ∙ take_at (take i k) (left_after to (drop i k)) i len in
    let back : drop i made ≡ left_after to (drop i k) = ap (drop i) made-is ∙ drop_at (take i k) (left_after to (drop i k)) i len in
    let after : joined (drop (c + 1) (set old c made)) ≡ rest = ap joined (drop-past old c made) in
    record {
      within = like.0;
      at = omega (arith, ap (λ (xs : List Run). length xs) like.1, ap (λ (xs : List Run). length xs) made-is, length-append (take i k) (left_after to (drop i k)), len);
      before = before-like now old c i made below same (front ∙ ap (take i) is);
      left = from_there-split now c i like.0
          ∙ (ap (λ xs. drop i xs ++ joined (drop (suc c) now)) like.1
          ∙ (ap (λ n. drop i made ++ joined (drop n now)) (sym (add-one c))
          ∙ (ap (λ xs. xs ++ joined (drop (c + 1) now)) back
          ∙ (ap (λ xs. left_after to (drop i k) ++ xs) (left-is ∙ ap (left_after to) after)
          ∙ (sym (left_after-append to (first.end + 1) (drop i k) rest ahead) ∙ ap (left_after to) (sym e))))));
      grown = last-is
          ∙ (ap (grown_over to mid) after
          ∙ (ap (λ g. grown_over to g rest) mid-is
          ∙ (sym (grown_over-append to (first.end + 1) first (drop i k) rest ahead) ∙ ap (grown_over to first) (sym e))));
    }

-- ---- what the calls require

pub apart-here : (e c i : ℕ) (chunks : List (List Run)) (k : List Run) → c < length chunks → k ≡ get_or chunks c k → AreApart e (from_there chunks c i) → AreApart e (drop i k)
apart-here e c i chunks k below read apart =
    AreApart-left e (drop i k) (joined (drop (c + 1) chunks)) (subst (λ (xs : List Run). AreApart e xs) (from_there-at chunks c i k below read) apart)

pub apart-past : (to c i : ℕ) (g mid : Growth) (chunks : List (List Run)) (k made : List Run) → c < length chunks → k ≡ get_or chunks c k
    → AreApart (g.end + 1) (from_there chunks c i) → mid ≡ grown_over to g (drop i k) → AreApart (mid.end + 1) (joined (drop (c + 1) (set chunks c made)))
apart-past to c i g mid chunks k made below read apart is =
    let ahead = subst (λ (xs : List Run). AreApart (g.end + 1) xs) (from_there-at chunks c i k below read) apart in
    let rest = AreApart-grown to g (drop i k) (joined (drop (c + 1) chunks)) ahead in
    let there = subst (λ (h : Growth). AreApart (h.end + 1) (joined (drop (c + 1) chunks))) (sym is) rest in
    subst (λ (xs : List Run). AreApart (mid.end + 1) xs) (sym (ap joined (drop-past chunks c made))) there

pub filled-made : (to c i : ℕ) (chunks : List (List Run)) (k made : List Run) → 0 < i → i ≤ length k → made ≡ take i k ++ left_after to (drop i k) → AreFilled chunks → AreFilled (set chunks c made)
filled-made to c i chunks k made some within is filled =
    AreFilled-set chunks c made filled
    (omega (arith, ap (λ (xs : List Run). length xs) is, length-append (take i k) (left_after to (drop i k)), length-take-le i k within))

-- ---- one run replaced

pub before-more : (chunks : List (List Run)) (c i : ℕ) (d : Run) → c < length chunks → i < length (get_or chunks c []) → before chunks c (i + 1) ≡ before chunks c i ++ (get_or (get_or chunks c []) i d ∷ [])
before-more [] c i d below within = absurd (omega arith)
before-more (k ∷ ks) zero i d below within = take_more k i d within
before-more (k ∷ ks) (suc c) i d below within =
    ap (λ xs. k ++ xs) (before-more ks c i d (omega arith) within) ∙ sym (append_assoc k (before ks c i) (get_or (get_or ks c []) i d ∷ []))

-- where the runs up to and with one stay, those before it do
pub before-less : (now old : List (List Run)) (c i : ℕ) (d : Run) → c < length now → i < length (get_or now c []) → c < length old → i < length (get_or old c [])
    → before now c (i + 1) ≡ before old c (i + 1) → before now c i ≡ before old c i
before-less now old c i d below within below' within' same =
    (same_from_push (before now c i) (before old c i) (get_or (get_or now c []) i d) (get_or (get_or old c []) i d)
    (sym (before-more now c i d below within) ∙ (same ∙ before-more old c i d below' within'))).0

pub joined-replaced : (chunks : List (List Run)) (c i : ℕ) (k made : List Run) (r : Run) → c < length chunks → k ≡ get_or chunks c k → i < length k → made ≡ set k i r
    → joined (set chunks c made) ≡ before chunks c i ++ (r ∷ from_there chunks c (i + 1))
joined-replaced chunks c i k made r below read within is =
    let here = get_or_read chunks c k below read [] in
    let made-is : made ≡ take i (get_or chunks c []) ++ (r ∷ drop (i + 1) k) =
    is ∙ (set_split k i r within ∙ (ap (λ n. take i k ++ (r ∷ drop n k)) (sym (add-one i)) ∙ ap (λ xs. take i xs ++ (r ∷ drop (i + 1) k)) here)) in
    ap (λ xs. joined (set chunks c xs)) made-is
    ∙ (joined-set chunks c i (r ∷ drop (i + 1) k) below
    ∙ ap (λ xs. before chunks c i ++ (r ∷ xs)) (ap (λ n. drop (i + 1) k ++ joined (drop n chunks)) (sym (add-one c)) ∙ sym (from_there-at chunks c (i + 1) k below read)))

-- ---- the whole of a widening

abbrev pub run_of : ℕ → ℕ → Run
run_of a b = record { from = a; to = b }

pub from_there-next : (chunks : List (List Run)) (c i : ℕ) (k : List Run) (r : Run) → c < length chunks → k ≡ get_or chunks c k → i < length k → r ≡ get_or k i r
    → from_there chunks c i ≡ r ∷ from_there chunks c (i + 1)
from_there-next chunks c i k r below read within at =
    from_there-read chunks c i k r below read within at ∙ ap (λ xs. r ∷ xs) (sym (from_there-at chunks c (i + 1) k below read))

here-read : (chunks : List (List Run)) (c i : ℕ) (k : List Run) → c < length chunks → k ≡ get_or chunks c k → i < length (get_or chunks c []) → i < length k
here-read chunks c i k below read here = subst (λ (xs : List Run). i < length xs) (sym (get_or_read chunks c k below read [])) here

pub apart-next : (chunks : List (List Run)) (c i : ℕ) (k : List Run) (r : Run) → c < length chunks → k ≡ get_or chunks c k → i < length (get_or chunks c []) → r ≡ get_or k i r
    → AreApart 0 (joined chunks) → (r.from < r.to) × AreApart (r.to + 1) (from_there chunks c (i + 1))
apart-next chunks c i k r below read here at apart =
    let within = here-read chunks c i k below read here in
    let there = AreApart-right 0 (before chunks c i) (from_there chunks c i) (subst (λ (xs : List Run). AreApart 0 xs) (joined-place chunks c i) apart) in
    let next = subst (λ (xs : List Run). AreApart 0 xs) (from_there-next chunks c i k r below read within at) there in
    (next.1, next.2)

pub widened-made : (from to : ℕ) (old now new : List (List Run)) (c i : ℕ) (k : List Run) (r : Run) (g : Growth) (begin end : ℕ)
    → c < length old → k ≡ get_or old c k → i < length (get_or old c []) → r ≡ get_or k i r
    → c < length now → i + 1 ≤ length (get_or now c [])
    → before now c (i + 1) ≡ before old c (i + 1)
    → from_there now c (i + 1) ≡ left_after to (from_there old c (i + 1))
    → g ≡ grown_over to (record { end = r.to; fresh = r.from - from }) (from_there old c (i + 1))
    → begin ≡ min from r.from → end ≡ max to g.end
    → joined new ≡ before now c i ++ (run_of begin end ∷ from_there now c (i + 1))
    → (joined new ≡ before old c i ++ widened from to (from_there old c i)) × (g.fresh + (end - g.end) ≡ widening from to (from_there old c i))
widened-made from to old now new c i k r g begin end below read here at below' within' same left grown begin-is end-is new-is =
    let next = from_there-next old c i k r below read (here-read old c i k below read here) at in
    let front = before-less now old c i r below' (omega (arith, within')) below here same in
    let tail = from_there old c (i + 1) in
    let ends : end ≡ max to (grown_first from to r tail).end = end-is ∙ ap (λ (h : Growth). max to h.end) grown in
    let run : run_of begin end ≡ run_of (min from r.from) (max to (grown_first from to r tail).end) =
    ap (λ n. run_of n end) begin-is ∙ ap (run_of (min from r.from)) ends in
    let count : g.fresh + (end - g.end) ≡ g.fresh + (to - g.end) = omega (arith, end-is) in (
      new-is
          ∙ (ap (λ xs. xs ++ (run_of begin end ∷ from_there now c (i + 1))) front
          ∙ (ap (λ xs. before old c i ++ (run_of begin end ∷ xs)) left
          ∙ (ap (λ x. before old c i ++ (x ∷ left_after to tail)) run
          ∙ ap (λ xs. before old c i ++ widened from to xs) (sym next)))),
      count ∙ (ap (λ (h : Growth). h.fresh + (to - h.end)) grown ∙ ap (widening from to) (sym next)),
    )
