-- A chunk cut in two, and a run added, over plain variables.

use Rattle.std.proofs.Common.{◌≡◌, ℕ, zero, suc, ◌+◌, ◌<◌, ◌≤◌, List, [], ◌∷◌, ◌++◌, length, take, drop, get_or, set, leb, ltb, true, refl, sym, ap, ◌∙◌, subst, arith, append_assoc, add-one, inl, inr, length-append, ◌-◌}
use Rattle.std.proofs.lemmas.Bool.{cases_lt, le-leb, leb-true, ltb-true}
use Rattle.spans.specs.declared.pieces.Place.{Place}
use Rattle.std.proofs.lemmas.List.{take-append-drop, append-nil, take-take, take_all, drop-append-le, drop-drop, length-take-le, length-drop, drop_all, get_or_read}
use Rattle.std.specs.List.{insert}
use Rattle.spans.specs.declared.range.Run.{Run}
use Rattle.spans.specs.Chunks.{AreFilled, joined, before, from_there, split_at}
use Rattle.spans.specs.Runs.{BeginsBy, FirstHasAll}
use Rattle.spans.proofs.Growing.{drop-read}
use Rattle.spans.proofs.Joined.{from_there-past, joined-place, joined-set, from_there-split}

-- ---- parts of a list

abbrev empty : (X : Type 0) → List X
empty X = []

pub take-nil : {X : Type 0} (n : ℕ) → take n (empty X) ≡ empty X
take-nil zero = refl
take-nil (suc n) = refl

pub take-rest : {X : Type 0} (xs : List X) (n m : ℕ) → take (n + m) xs ≡ take n xs ++ take m (drop n xs)
take-rest xs zero m = ap (λ k. take k xs) (omega arith)
take-rest {X} [] (suc n) m = take-nil {X = X} (suc n + m) ∙ sym (take-nil {X = X} m)
take-rest (x ∷ xs) (suc n) m =
    let e : suc n + m ≡ suc (n + m) = omega arith in
    ap (λ k. take k (x ∷ xs)) e ∙ ap (λ ys. x ∷ ys) (take-rest xs n m)

pub drop-rest : {X : Type 0} (xs : List X) (i n : ℕ) → i ≤ n → n ≤ length xs → drop i (take n xs) ++ drop n xs ≡ drop i xs
drop-rest xs i n le within =
    sym (drop-append-le i (take n xs) (drop n xs) (omega (arith, length-take-le n xs within)))
    ∙ ap (drop i) (take-append-drop n xs)

-- ---- the chunk cut in two

pub split_at-is : (chunks : List (List Run)) (c keep : ℕ) (k : List Run) → c < length chunks → k ≡ get_or chunks c []
    → set (insert chunks (suc c) (drop keep k)) c (take keep k) ≡ split_at c keep chunks
split_at-is [] c keep k below is = absurd (omega arith)
split_at-is (x ∷ xs) zero keep k below is = ap (λ y. take keep y ∷ (drop keep y ∷ xs)) is
split_at-is (x ∷ xs) (suc c) keep k below is = ap (λ ys. x ∷ ys) (split_at-is xs c keep k (omega arith) is)

-- a place of some chunks stands at a place of others
pub record StandsAt (chunks : List (List Run)) (c i : ℕ) (now : List (List Run)) (d j : ℕ) : Type 0 where
  pub within : d < length now
  pub at : j ≤ length (get_or now d [])
  pub before : before now d j ≡ before chunks c i
  pub rest : from_there now d j ≡ from_there chunks c i

pub StandsAt-below : (chunks : List (List Run)) (c i keep : ℕ) → c < length chunks → keep ≤ length (get_or chunks c []) → i ≤ keep
    → StandsAt chunks c i (split_at c keep chunks) c i
StandsAt-below [] c i keep below within le = absurd (omega arith)
StandsAt-below (k ∷ ks) zero i keep below within le = record {
  within = omega arith;
  at = omega (arith, length-take-le keep k within);
  before = take-take i keep k le;
  rest = sym (append_assoc (drop i (take keep k)) (drop keep k) (joined ks)) ∙ ap (λ xs. xs ++ joined ks) (drop-rest k i keep le within);
}
StandsAt-below (k ∷ ks) (suc c) i keep below within le =
    let rest = StandsAt-below ks c i keep (omega arith) within le in
    record {
      within = omega (arith, rest.within);
      at = rest.at;
      before = ap (λ xs. k ++ xs) rest.before;
      rest = rest.rest;
    }

pub StandsAt-above : (chunks : List (List Run)) (c i j keep : ℕ) → c < length chunks → i ≤ length (get_or chunks c []) → j + keep ≡ i
    → StandsAt chunks c i (split_at c keep chunks) (suc c) j
StandsAt-above [] c i j keep below within is = absurd (omega arith)
StandsAt-above (k ∷ ks) zero i j keep below within is =
    let e : keep + j ≡ i = omega arith in
    record {
      within = omega arith;
      at = omega (arith, length-drop keep k);
      before = sym (take-rest k keep j) ∙ ap (λ n. take n k) e;
      rest = ap (λ xs. xs ++ joined ks) (drop-drop j keep k ∙ ap (λ n. drop n k) e);
    }
StandsAt-above (k ∷ ks) (suc c) i j keep below within is =
    let rest = StandsAt-above ks c i j keep (omega arith) within is in
    record {
      within = omega (arith, rest.within);
      at = rest.at;
      before = ap (λ xs. k ++ xs) rest.before;
      rest = rest.rest;
    }

pub StandsAt-moved : (chunks now : List (List Run)) (p q : Place) (keep : ℕ) → p.chunk < length chunks → p.at ≤ length (get_or chunks p.chunk [])
    → keep ≤ length (get_or chunks p.chunk []) → now ≡ split_at p.chunk keep chunks
    → (p.at ≤ keep → q ≡ p) → (keep < p.at → (q.chunk ≡ p.chunk + 1) × (q.at + keep ≡ p.at)) → StandsAt chunks p.chunk p.at now q.chunk q.at
StandsAt-moved chunks now p q keep below within kept is low high =
    elim (cases_lt keep p.at) [
      | inl above ↦
          let h = high above in
          let moved = StandsAt-above chunks p.chunk p.at q.at keep below within h.1 in
          let there = subst (λ (d : ℕ). StandsAt chunks p.chunk p.at (split_at p.chunk keep chunks) d q.at) (sym (h.0 ∙ add-one p.chunk)) moved in
          subst (λ (ns : List (List Run)). StandsAt chunks p.chunk p.at ns q.chunk q.at) (sym is) there
      | inr le ↦
          let stays = StandsAt-below chunks p.chunk p.at keep below kept le in
          let there = subst (λ (ns : List (List Run)). StandsAt chunks p.chunk p.at ns p.chunk p.at) (sym is) stays in
          subst (λ (t : Place). StandsAt chunks p.chunk p.at now t.chunk t.at) (sym (low le)) there
    ]

pub joined-stands : (chunks : List (List Run)) (c i : ℕ) (now : List (List Run)) (d j : ℕ) → StandsAt chunks c i now d j → joined now ≡ joined chunks
joined-stands chunks c i now d j h =
    joined-place now d j
    ∙ (ap (λ xs. xs ++ from_there now d j) h.before
    ∙ (ap (λ xs. before chunks c i ++ xs) h.rest
    ∙ sym (joined-place chunks c i)))

pub AreFilled-split_at : (chunks : List (List Run)) (c keep : ℕ) → AreFilled chunks → 0 < keep → keep < length (get_or chunks c []) → AreFilled (split_at c keep chunks)
AreFilled-split_at [] c keep filled some below = tt
AreFilled-split_at (k ∷ ks) zero keep filled some below =
    (omega (arith, length-take-le keep k), (omega (arith, length-drop keep k), filled.1))
AreFilled-split_at (k ∷ ks) (suc c) keep filled some below = (filled.0, AreFilled-split_at ks c keep filled.1 some below)

-- ---- a run added

pub joined-insert : (chunks : List (List Run)) (c i : ℕ) (r : Run) (k : List Run) → c < length chunks → k ≡ get_or chunks c []
    → joined (set chunks c (insert k i r)) ≡ before chunks c i ++ (r ∷ from_there chunks c i)
joined-insert chunks c i r k below is =
    ap (λ (xs : List Run). joined (set chunks c (insert xs i r))) is
    ∙ (joined-set chunks c i (r ∷ drop i (get_or chunks c [])) below
    ∙ ap (λ xs. before chunks c i ++ (r ∷ xs)) (sym (from_there-split chunks c i below)))

-- the place after the last run
pub before-last : (chunks : List (List Run)) (c i : ℕ) → c + 1 ≡ length chunks → i ≡ length (get_or chunks c []) → before chunks c i ≡ joined chunks
before-last [] c i last is = refl
before-last (x ∷ []) zero i last is = take_all i x (omega arith) ∙ sym (append-nil x)
before-last (x ∷ (y ∷ xs)) zero i last is = absurd (omega arith)
before-last (x ∷ xs) (suc c) i last is = ap (λ ys. x ++ ys) (before-last xs c i (omega arith) is)

pub from_there-last : (chunks : List (List Run)) (c i : ℕ) → c + 1 ≡ length chunks → i ≡ length (get_or chunks c []) → from_there chunks c i ≡ []
from_there-last [] c i last is = refl
from_there-last (x ∷ []) zero i last is = append-nil (drop i x) ∙ drop_all i x (omega arith)
from_there-last (x ∷ (y ∷ xs)) zero i last is = absurd (omega arith)
from_there-last (x ∷ xs) (suc c) i last is = from_there-last xs c i (omega arith) is

-- a chunk read once the rest of it stands after it
pub get_or-before : (chunks : List (List Run)) (c : ℕ) (rest d : List Run) → c < length chunks → get_or (insert chunks (suc c) rest) c d ≡ get_or chunks c d
get_or-before [] c rest d below = absurd (omega arith)
get_or-before (x ∷ xs) zero rest d below = refl
get_or-before (x ∷ xs) (suc c) rest d below = get_or-before xs c rest d (omega arith)

pub split_at-made : (chunks now : List (List Run)) (c keep : ℕ) (k rest m n : List Run) → c < length chunks
    → k ≡ get_or chunks c k → rest ≡ drop keep k → now ≡ insert chunks (c + 1) rest → m ≡ get_or now c m → n ≡ take keep m
    → set now c n ≡ split_at c keep chunks
split_at-made chunks now c keep k rest m n below read cut made again kept =
    let k-is : k ≡ get_or chunks c [] = get_or_read chunks c k below read [] in
    let now-is : now ≡ insert chunks (suc c) (drop keep k) = made ∙ (ap (λ i. insert chunks i rest) (add-one c) ∙ ap (insert chunks (suc c)) cut) in
    let m-is : m ≡ k = again ∙ (ap (λ xs. get_or xs c m) now-is ∙ (get_or-before chunks c (drop keep k) m below ∙ sym (get_or_read chunks c k below read m))) in
    ap (λ xs. set xs c n) now-is
    ∙ (ap (set (insert chunks (suc c) (drop keep k)) c) (kept ∙ ap (take keep) m-is)
    ∙ split_at-is chunks c keep k below k-is)

-- ---- the run at a place

pub from_there-read : (chunks : List (List Run)) (c i : ℕ) (k : List Run) (r : Run) → c < length chunks → k ≡ get_or chunks c k → i < length k → r ≡ get_or k i r
    → from_there chunks c i ≡ r ∷ (drop (i + 1) k ++ joined (drop (c + 1) chunks))
from_there-read chunks c i k r below read within at =
    let is = get_or_read chunks c k below read [] in
    let here : drop i (get_or chunks c []) ≡ r ∷ drop (i + 1) k = ap (drop i) (sym is) ∙ drop-read k i r within at in
    from_there-split chunks c i below
    ∙ (ap (λ xs. xs ++ joined (drop (suc c) chunks)) here
    ∙ ap (λ n. (r ∷ drop (i + 1) k) ++ joined (drop n chunks)) (sym (add-one c)))

pub BeginsBy-read : (chunks : List (List Run)) (c i to : ℕ) (k : List Run) (r : Run) → c < length chunks → k ≡ get_or chunks c k → i < length k → r ≡ get_or k i r
    → (leb r.from to ≡ true → BeginsBy to (from_there chunks c i)) × (BeginsBy to (from_there chunks c i) → leb r.from to ≡ true)
BeginsBy-read chunks c i to k r below read within at =
    let e = from_there-read chunks c i k r below read within at in (
      λ h. subst (λ (xs : List Run). BeginsBy to xs) (sym e) (leb-true r.from to h),
      λ h. le-leb r.from to (subst (λ (xs : List Run). BeginsBy to xs) e h),
    )

pub BeginsBy-past : (chunks : List (List Run)) (c i to : ℕ) → length chunks ≤ c
    → (ltb c (length chunks) ≡ true → BeginsBy to (from_there chunks c i)) × (BeginsBy to (from_there chunks c i) → ltb c (length chunks) ≡ true)
BeginsBy-past chunks c i to past = (
  λ h. let low = ltb-true c (length chunks) h in absurd (omega (arith, low)),
  λ h. absurd (subst (λ (xs : List Run). BeginsBy to xs) (from_there-past chunks c i past) h),
)

pub BeginsBy-within : (chunks : List (List Run)) (c i to : ℕ) → BeginsBy to (from_there chunks c i) → c < length chunks
BeginsBy-within chunks c i to begins =
    elim (cases_lt c (length chunks)) [
      | inl below ↦ below
      | inr past ↦ absurd (subst (λ (xs : List Run). BeginsBy to xs) (from_there-past chunks c i past) begins)
    ]

pub FirstHasAll-past : (chunks : List (List Run)) (c i from to : ℕ) → length chunks ≤ c → FirstHasAll from to (from_there chunks c i) → ⊥
FirstHasAll-past chunks c i from to past first = subst (λ (xs : List Run). FirstHasAll from to xs) (from_there-past chunks c i past) first

pub FirstHasAll-read : (chunks : List (List Run)) (c i from to : ℕ) (k : List Run) (r : Run) → c < length chunks → k ≡ get_or chunks c k → i < length (get_or chunks c []) → r ≡ get_or k i r
    → (((r.from ≤ from) × (to ≤ r.to)) → FirstHasAll from to (from_there chunks c i)) × (FirstHasAll from to (from_there chunks c i) → (r.from ≤ from) × (to ≤ r.to))
FirstHasAll-read chunks c i from to k r below read here at =
    let within = subst (λ (xs : List Run). i < length xs) (sym (get_or_read chunks c k below read [])) here in
    let e = from_there-read chunks c i k r below read within at in
    (λ h. subst (λ (xs : List Run). FirstHasAll from to xs) (sym e) h, λ h. subst (λ (xs : List Run). FirstHasAll from to xs) e h)

-- ---- how much the chunks hold

-- no chunk holds more than all
pub length-chunk : (chunks : List (List Run)) (c : ℕ) → c < length chunks → length (get_or chunks c []) ≤ length (joined chunks)
length-chunk [] c below = absurd (omega arith)
length-chunk (k ∷ ks) zero below = omega (arith, length-append k (joined ks))
length-chunk (k ∷ ks) (suc c) below = omega (arith, length-append k (joined ks), length-chunk ks c (omega arith))

-- a half of a chunk that was cut in two
pub length-first : (chunks : List (List Run)) (c keep : ℕ) → c < length chunks → keep ≤ length (get_or chunks c [])
    → length (get_or (split_at c keep chunks) c []) ≡ keep
length-first [] c keep below within = absurd (omega arith)
length-first (k ∷ ks) zero keep below within = length-take-le keep k within
length-first (k ∷ ks) (suc c) keep below within = length-first ks c keep (omega arith) within

pub length-second : (chunks : List (List Run)) (c keep : ℕ) → c < length chunks
    → length (get_or (split_at c keep chunks) (suc c) []) ≡ length (get_or chunks c []) - keep
length-second [] c keep below = absurd (omega arith)
length-second (k ∷ ks) zero keep below = length-drop keep k
length-second (k ∷ ks) (suc c) keep below = length-second ks c keep (omega arith)

-- the chunk to which a place has moved has room, where both halves have
pub length-moved : (most : ℕ) (chunks now : List (List Run)) (p q : Place) (keep : ℕ) → p.chunk < length chunks
    → keep ≤ length (get_or chunks p.chunk []) → keep < most → length (get_or chunks p.chunk []) < keep + most → now ≡ split_at p.chunk keep chunks
    → (p.at ≤ keep → q ≡ p) → (keep < p.at → (q.chunk ≡ p.chunk + 1) × (q.at + keep ≡ p.at)) → length (get_or now q.chunk []) < most
length-moved most chunks now p q keep below within few others is low high =
    elim (cases_lt keep p.at) [
      | inl above ↦
          let there : q.chunk ≡ suc p.chunk = (high above).0 ∙ add-one p.chunk in
          rw (is, there) (omega (arith, length-second chunks p.chunk keep below))
      | inr le ↦ rw (is, low le) (omega (arith, length-first chunks p.chunk keep below within))
    ]
