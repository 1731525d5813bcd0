-- What steps leave of the sum over the sessions that are on their way.

use Rattle.std.proofs.Common.{◌≡◌, ℕ, ◌+◌, ◌≤◌, Bool, true, false, ◌==◌, List, [], ◌∷◌, None}
use Rattle.std.proofs.Common.{Some, inl, inr, refl, sym, ◌∙◌, ap, arith, nat_lt, if◌then◌else◌}
use Rattle.std.proofs.lemmas.Bool.{eqb-true, ltb-true}
use Rattle.ltp_session.specs.Receiver.{Receiving}
use Rattle.ltp_session.specs.Sender.{Sending}
use Rattle.ltp_session.specs.Step.{Change, stays, keeps, ends}
use Rattle.ltp_session.specs.Table.{AreAscending, find, put, settled, then_kept, ticked, without}
use Rattle.ltp_laws.specs.View.{IsIn}
use Rattle.ltp_laws.proofs.TableLemmas.{find_below}
use Rattle.path_drain.specs.OnTheWay.{is_on_its_way, sum_on_way}

-- what a session adds
abbrev pub adds : Bool → ℕ → ℕ
adds onway k = if onway then k else 0

adds-most : (a b : Bool) (k : ℕ) → (a ≡ true → b ≡ true) → adds a k ≤ adds b k
adds-most false b k most = omega arith
adds-most true b k most = rw (most refl) (omega arith)

-- ---- the gate's receivers

-- whatever is on its way then was so before
pub way-most : (count : List ℕ → ℕ) (rs rs' : List (ℕ × Receiving)) (es : List (ℕ × Sending))
    → ((entry : ℕ × Sending) → IsIn entry es → is_on_its_way rs' entry.0 ≡ true
    → is_on_its_way rs entry.0 ≡ true)
    → sum_on_way count rs' es ≤ sum_on_way count rs es
unfolding sum_on_way
way-most count rs rs' [] most = omega arith
way-most count rs rs' (e ∷ es) most =
    omega (
      arith,
      adds-most (is_on_its_way rs' e.0) (is_on_its_way rs e.0) (count e.1.block)
          (most e (inl refl)),
      way-most count rs rs' es (λ entry among. most entry (inr among)),
    )

-- and one that isn't any more takes what it added
pub way-less : (count : List ℕ → ℕ) (rs rs' : List (ℕ × Receiving)) (n : ℕ) (s : Sending)
    (es : List (ℕ × Sending))
    → ((entry : ℕ × Sending) → IsIn entry es → is_on_its_way rs' entry.0 ≡ true
    → is_on_its_way rs entry.0 ≡ true)
    → is_on_its_way rs n ≡ true → is_on_its_way rs' n ≡ false → find n es ≡ Some s
    → sum_on_way count rs' es + count s.block ≤ sum_on_way count rs es
unfolding sum_on_way find
way-less count rs rs' n s [] most was now kept = absurd (cc)
way-less count rs rs' n s (e ∷ es) most was now kept =
    by_test (e.0 == n) refl
    (way-less count rs rs' n s es (λ entry among. most entry (inr among)) was now)
    (way-most count rs rs' es (λ entry among. most entry (inr among))) kept
  where
    by_test : (same : Bool) → (e.0 == n) ≡ same
        → (find n es ≡ Some s
        → sum_on_way count rs' es + count s.block ≤ sum_on_way count rs es)
        → sum_on_way count rs' es ≤ sum_on_way count rs es
        → (if same then Some e.1 else find n es) ≡ Some s
        → adds (is_on_its_way rs' e.0) (count e.1.block) + sum_on_way count rs' es + count s.block
        ≤ adds (is_on_its_way rs e.0) (count e.1.block) + sum_on_way count rs es
    by_test true is_same rest all kept =
        let here : e.0 ≡ n = eqb-true e.0 n is_same in
        let its : e.1 ≡ s = cc in
        let yes : is_on_its_way rs e.0 ≡ true = ap (is_on_its_way rs) here ∙ was in
        let no : is_on_its_way rs' e.0 ≡ false = ap (is_on_its_way rs') here ∙ now in
        rw (yes, no) (omega (arith, all, ap (λ (x : Sending). count x.block) its))
    by_test false is_same rest all kept = omega (
      arith,
      rest kept,
      adds-most (is_on_its_way rs' e.0) (is_on_its_way rs e.0) (count e.1.block)
          (most e (inl refl)),
    )

-- ---- the node's senders

-- a new state of a sender that is kept, with the same block
pub way-put : (count : List ℕ → ℕ) (rs : List (ℕ × Receiving)) (n low : ℕ) (s s' : Sending)
    (es : List (ℕ × Sending)) → AreAscending low es → find n es ≡ Some s → s'.block ≡ s.block
    → sum_on_way count rs (put n s' es) ≡ sum_on_way count rs es
unfolding sum_on_way find put
way-put count rs n low s s' [] ascending kept same = absurd (cc)
way-put count rs n low s s' (e ∷ es) ascending kept same =
    by_test (e.0 == n) refl (nat_lt n e.0) refl
    (λ found. way-put count rs n (e.0 + 1) s s' es ascending.1 found same) kept
  where
    by_test : (is : Bool) → (e.0 == n) ≡ is → (less : Bool) → nat_lt n e.0 ≡ less
        → (find n es ≡ Some s → sum_on_way count rs (put n s' es) ≡ sum_on_way count rs es)
        → (if is then Some e.1 else find n es) ≡ Some s
        → sum_on_way count rs (if is then (n, s') ∷ es else if less then (n, s') ∷ (e ∷ es)
        else e ∷ put n s' es)
        ≡ adds (is_on_its_way rs e.0) (count e.1.block) + sum_on_way count rs es
    by_test true is less is_less rest kept =
        let here : e.0 ≡ n = eqb-true e.0 n is in
        let its : e.1 ≡ s = cc in
        let block : s'.block ≡ e.1.block = same ∙ sym (ap (λ (x : Sending). x.block) its) in
        rw (here, block) refl
    by_test false is true is_less rest kept = absurd (
        let none : find n es ≡ None = find_below n (e.0 + 1) es
        (omega (arith, ltb-true n e.0 is_less)) ascending.1 in
        cc)
    by_test false is false is_less rest kept =
        ap (λ k. adds (is_on_its_way rs e.0) (count e.1.block) + k) (rest kept)

pub way-without : (count : List ℕ → ℕ) (rs : List (ℕ × Receiving)) (n : ℕ)
    (es : List (ℕ × Sending))
    → sum_on_way count rs (without n es) ≤ sum_on_way count rs es
unfolding sum_on_way without
way-without count rs n [] = omega arith
way-without count rs n (e ∷ es) = by_test (e.0 == n) (way-without count rs n es)
  where
    by_test : (same : Bool) → sum_on_way count rs (without n es) ≤ sum_on_way count rs es
        → sum_on_way count rs (if same then without n es else e ∷ without n es)
        ≤ adds (is_on_its_way rs e.0) (count e.1.block) + sum_on_way count rs es
    by_test true rest = omega (arith, rest)
    by_test false rest = omega (arith, rest)

-- a change that keeps a state is of a sender that is kept, and has its block and its red part
abbrev pub OfBlock : ℕ → List (ℕ × Sending) → Change Sending → Type 0
OfBlock n es stays = Unit {0}
OfBlock n es (keeps s') =
    (s : Sending) × (find n es ≡ Some s) × (s'.block ≡ s.block) × (s'.red ≡ s.red)
OfBlock n es ends = Unit {0}

pub way-settled : (count : List ℕ → ℕ) (rs : List (ℕ × Receiving)) (n : ℕ) (c : Change Sending)
    (es : List (ℕ × Sending)) → AreAscending 0 es → OfBlock n es c
    → sum_on_way count rs (settled n c es) ≤ sum_on_way count rs es
way-settled count rs n stays es ascending of = omega arith
way-settled count rs n (keeps s') es ascending (s, kept, same, reds) =
    omega (arith, way-put count rs n 0 s s' es ascending kept same)
way-settled count rs n ends es ascending of = way-without count rs n es

-- ---- a tick

-- a change that keeps a state keeps the block and its red part
abbrev pub SameBlock : Sending → Change Sending → Type 0
SameBlock s stays = Unit {0}
SameBlock s (keeps s') = (s'.block ≡ s.block) × (s'.red ≡ s.red)
SameBlock s ends = Unit {0}

pub way-ticked : (count : List ℕ → ℕ) (rs : List (ℕ × Receiving))
    (change : Sending → Change Sending)
    (es : List (ℕ × Sending)) → ((s : Sending) → SameBlock s (change s))
    → sum_on_way count rs (ticked change es) ≤ sum_on_way count rs es
unfolding sum_on_way ticked
way-ticked count rs change [] same = omega arith
way-ticked count rs change (e ∷ es) same =
    by_change (change e.1) (same e.1) (way-ticked count rs change es same)
  where
    by_change : (c : Change Sending) → SameBlock e.1 c
        → sum_on_way count rs (ticked change es) ≤ sum_on_way count rs es
        → sum_on_way count rs (then_kept e c (ticked change es))
        ≤ adds (is_on_its_way rs e.0) (count e.1.block) + sum_on_way count rs es
    by_change stays is rest = omega (arith, rest)
    by_change (keeps s) is rest = rw is.0 (omega (arith, rest))
    by_change ends is rest = omega (arith, rest)
