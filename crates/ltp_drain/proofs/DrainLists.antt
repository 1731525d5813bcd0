-- New datagrams, and sums of ranks.

use Rattle.std.proofs.Common.{◌≡◌, ℕ, zero, suc, ◌+◌, ◌<◌, ◌≤◌, Bool, true, false, ◌==◌, List, []}
use Rattle.std.proofs.Common.{◌∷◌, ◌++◌, length, drop, Option, None, Some, refl, sym, ◌∙◌, ap}
use Rattle.std.proofs.Common.{arith, subst, if◌then◌else◌}
use Rattle.std.proofs.lemmas.Bool.{eqb-true, eqb-false}
use Rattle.std.proofs.lemmas.List.{append-nil}
use Rattle.ltp_segment.specs.Values.{ContentValue}
use Rattle.ltp_session.specs.World.{End, Sent, first_end, second_end}
use Rattle.ltp_laws.specs.View.{is_of, said, same_end}
use Rattle.ltp_laws.proofs.FrameLemmas.{said-append}
use Rattle.ltp_drain.specs.Draining.{Oldest, behind, oldest}
use Rattle.ltp_drain.specs.Hopeful.{sum_below}

pub same_end-true : (a b : End) → same_end a b ≡ true → a ≡ b
same_end-true first_end first_end is = refl
same_end-true second_end second_end is = refl
same_end-true first_end second_end is = absurd (cc)
same_end-true second_end first_end is = absurd (cc)

pub said-none : (who : End) (o n : ℕ) → said who o n [] ≡ []
unfolding said
said-none who o n = refl

pub said-skip : (who : End) (o n : ℕ) (d : Sent) (ds : List Sent) → is_of who o n d ≡ false
    → said who o n (d ∷ ds) ≡ said who o n ds
unfolding said
said-skip who o n d ds is = rw is refl

pub said-take : (who : End) (o n : ℕ) (d : Sent) (ds : List Sent) → is_of who o n d ≡ true
    → said who o n (d ∷ ds) ≡ (d.segment).content ∷ said who o n ds
unfolding said
said-take who o n d ds is = rw is refl

said-cons : (who : End) (o n : ℕ) (d : Sent) (xs ys : List Sent)
    → said who o n xs ≡ said who o n ys → said who o n (d ∷ xs) ≡ said who o n (d ∷ ys)
unfolding said
said-cons who o n d xs ys same = by_test (is_of who o n d)
  where
    by_test : (mine : Bool) → (if mine then (d.segment).content ∷ said who o n xs else said who o
        n xs) ≡ (if mine then (d.segment).content ∷ said who o n ys else said who o n ys)
    by_test true = ap (λ (cs : List ContentValue). (d.segment).content ∷ cs) same
    by_test false = same

-- either it is the first, or the first is of another end
pub data Finds (from : End) (d : Sent) (ds : List Sent) (o : Oldest) : Type 0 where
  at_once : same_end d.from from ≡ true → record { first = d; others = ds } ≡ o
      → Finds from d ds o
  later : same_end d.from from ≡ false → (x : Oldest) → oldest from ds ≡ Some x
      → record { first = x.first; others = d ∷ x.others } ≡ o → Finds from d ds o

pub finds : (from : End) (d : Sent) (ds : List Sent) (o : Oldest) → oldest from (d ∷ ds) ≡ Some o
    → Finds from d ds o
unfolding oldest
finds from d ds o is = by_test (same_end d.from from) refl is
  where
    by_rest : (r : Option Oldest) → oldest from ds ≡ r → behind d r ≡ Some o
        → same_end d.from from ≡ false → Finds from d ds o
    by_rest None none is apart = absurd (cc)
    by_rest (Some x) some is apart = later apart x some (cc)

    by_test : (mine : Bool) → same_end d.from from ≡ mine
        → (if mine then Some (record { first = d; others = ds }) else behind d (oldest from ds)) ≡
        Some o → Finds from d ds o
    by_test true mine is = at_once mine (cc)
    by_test false apart is = by_rest (oldest from ds) refl is apart

pub nothing-oldest : (from : End) {o : Oldest} → oldest from [] ≡ Some o → ⊥
unfolding oldest
nothing-oldest from is = cc

apart-not : (who : End) (o n : ℕ) (d : Sent) → same_end d.from who ≡ false
    → is_of who o n d ≡ false
apart-not who o n d apart = rw apart refl

pub oldest-from : (from : End) (new : List Sent) (o : Oldest) → oldest from new ≡ Some o
    → same_end (o.first).from from ≡ true
oldest-from from [] o is = absurd (nothing-oldest from is)
oldest-from from (d ∷ ds) o is = go (finds from d ds o is) (oldest-from from ds)
  where
    go : Finds from d ds o → ((x : Oldest) → oldest from ds ≡ Some x
        → same_end (x.first).from from ≡ true) → same_end (o.first).from from ≡ true
    go (at_once mine found) deeper = subst (λ (o : Oldest). same_end (o.first).from from ≡ true)
        found mine
    go (later apart x some found) deeper = subst
        (λ (o : Oldest). same_end (o.first).from from ≡ true) found (deeper x some)

pub said-oldest : (from : End) (p n : ℕ) (new : List Sent) (o : Oldest) → oldest from new ≡ Some o
    → said from p n new ≡ said from p n (o.first ∷ o.others)
said-oldest from p n [] o is = absurd (nothing-oldest from is)
said-oldest from p n (d ∷ ds) o is = go (finds from d ds o is) (said-oldest from p n ds)
  where
    go : Finds from d ds o → ((x : Oldest) → oldest from ds ≡ Some x
        → said from p n ds ≡ said from p n (x.first ∷ x.others))
        → said from p n (d ∷ ds) ≡ said from p n (o.first ∷ o.others)
    go (at_once mine found) deeper = subst (λ (o : Oldest). said from p n (d ∷ ds) ≡ said from p n
        (o.first ∷ o.others)) found refl
    go (later apart x some found) deeper = subst
        (λ (o : Oldest). said from p n (d ∷ ds) ≡ said from p n (o.first ∷ o.others)) found
        (said-skip from p n d ds (apart-not from p n d apart) ∙ deeper x some
        ∙ said-cons from p n x.first x.others (d ∷ x.others)
        (sym (said-skip from p n d x.others (apart-not from p n d apart))))

pub said-oldest_other : (from who : End) (p n : ℕ) (new : List Sent) (o : Oldest)
    → same_end from who ≡ false → oldest from new ≡ Some o
    → said who p n new ≡ said who p n o.others
said-oldest_other from who p n [] o two_of is = absurd (nothing-oldest from is)
said-oldest_other from who p n (d ∷ ds) o two_of is =
    go (finds from d ds o is) (λ x. said-oldest_other from who p n ds x two_of)
  where
    go : Finds from d ds o → ((x : Oldest) → oldest from ds ≡ Some x
        → said who p n ds ≡ said who p n x.others) → said who p n (d ∷ ds) ≡ said who p n o.others
    go (at_once mine found) deeper = subst (λ (o : Oldest). said who p n (d ∷ ds) ≡ said who p n
        o.others) found
        (said-skip who p n d ds (apart-not who p n d
        (subst (λ e. same_end e who ≡ false) (sym (same_end-true d.from from mine)) two_of)))
    go (later apart x some found) deeper = subst
        (λ (o : Oldest). said who p n (d ∷ ds) ≡ said who p n o.others) found
        (said-cons who p n d ds x.others (deeper x some))

-- ---- what an event adds

append-cancel : (xs ys zs : List ContentValue) → xs ++ ys ≡ xs ++ zs → ys ≡ zs
append-cancel [] ys zs is = is
append-cancel (x ∷ xs) ys zs is = let tails : xs ++ ys ≡ xs ++ zs =
    cc in append-cancel xs ys zs tails

pub drop-front : {X : Type 0} (xs ys : List X) → drop (length xs) (xs ++ ys) ≡ ys
drop-front [] ys = refl
drop-front (x ∷ xs) ys = drop-front xs ys

-- what a session is said by what is added
pub added-said : (who : End) (o n : ℕ) (sent added : List Sent) (out : List ContentValue)
    → said who o n (sent ++ added) ≡ said who o n sent ++ out → said who o n added ≡ out
added-said who o n sent added out is = append-cancel (said who o n sent) _ _
    (sym (said-append who o n sent added) ∙ is)

pub new-said : (who : End) (o n : ℕ) (sent others added : List Sent) (out : List ContentValue)
    → said who o n (sent ++ added) ≡ said who o n sent ++ out
    → said who o n (others ++ added) ≡ said who o n others ++ out
new-said who o n sent others added out is = said-append who o n others added
    ∙ ap (λ (cs : List ContentValue). said who o n others ++ cs)
    (added-said who o n sent added out is)

pub new-none : (who : End) (o n : ℕ) (sent others added : List Sent)
    → said who o n (sent ++ added) ≡ said who o n sent
    → said who o n (others ++ added) ≡ said who o n others
new-none who o n sent others added is = new-said who o n sent others added [] (is
    ∙ sym (append-nil (said who o n sent))) ∙ append-nil (said who o n others)

-- ---- sums

pub sum-most : (n : ℕ) (f g : ℕ → ℕ) → ((m : ℕ) → f m ≤ g m) → sum_below n f ≤ sum_below n g
unfolding sum_below
sum-most zero f g below = omega arith
sum-most (suc n) f g below = omega (arith, below n, sum-most n f g below)

-- smaller at one place
pub sum-less : (n : ℕ) (f g : ℕ → ℕ) → ((m : ℕ) → f m ≤ g m) → (m : ℕ) → m < n → f m < g m
    → sum_below n f < sum_below n g
unfolding sum_below
sum-less zero f g below m low less = absurd (omega arith)
sum-less (suc n) f g below m low less = by_place (m == n) refl
    (λ deeper. sum-less n f g below m deeper less)
  where
    by_place : (here : Bool) → (m == n) ≡ here → (m < n → sum_below n f < sum_below n g)
        → f n + sum_below n f < g n + sum_below n g
    by_place true is deeper = omega (
      arith,
      sum-most n f g below,
      subst (λ k. f k < g k)
          (eqb-true m n is) less,
    )
    by_place false is deeper = omega (
      arith,
      below n,
      deeper (omega (arith, eqb-false m n is, low)),
    )

-- at the numbers below the bound
pub sum-below : (n : ℕ) (f g : ℕ → ℕ) → ((m : ℕ) → m < n → f m ≤ g m)
    → sum_below n f ≤ sum_below n g
unfolding sum_below
sum-below zero f g most = omega arith
sum-below (suc n) f g most = omega (
  arith,
  most n (omega arith),
  sum-below n f g
      (λ m low. most m (omega (arith, low))),
)
