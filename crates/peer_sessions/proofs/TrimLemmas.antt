-- Sessions are closed for want of memory, one after the other.

use Rattle.std.proofs.Common.{◌≡◌, ℕ, ◌<◌, ◌≤◌, Bool, true, false, nat_lt, nat_le, ◌==◌, ◌||◌, if◌then◌else◌, List, [], ◌∷◌, ◌++◌, length, Option, None, Some, is_some, refl, sym, ◌∙◌, ap, subst, arith}
use Rattle.std.specs.Option.{option_map}
use Rattle.std.proofs.lemmas.Bool.{eq-eqb}
use Rattle.std.proofs.lemmas.Bool.Decides.{nat_tests}
use Rattle.ltp_session.specs.Step.{ends}
use Rattle.ltp_session.specs.Receiver.{Receiving}
use Rattle.ltp_session.specs.Table.{find, without}
use Rattle.ltp_session.specs.Engine.{is_closed, untouched, with_receiver, longest_untouched}
use Rattle.ltp_engine.specs.Sessions.{cells_in, is_receiving, IsTouchOrder}
use Rattle.ltp_engine.specs.Shows.{AreDistinct}
use Rattle.ltp_engine.proofs.KeepLemmas.{length-without_found}
use Rattle.face_room.specs.Bounds.{half}
use Rattle.peer_sessions.specs.Keys.{FaceKeys}
use Rattle.peer_sessions.specs.Sessions.{Sessions, left_by, closes, trimmed, to_trim}
use Rattle.peer_sessions.specs.Hearing.{first_of}

-- ---- the first of them

pub trims-none : (most at_most : ℕ) (touched : List ℕ) (receivers : List (ℕ × Receiving)) → cells_in receivers ≤ at_most → nat_le at_most most ≡ true
    → None ≡ first_of (trimmed most touched receivers)
unfolding trimmed
trims-none most at_most [] receivers few within = refl
trims-none most at_most (n ∷ touched) receivers few within = rw (never most at_most (cells_in receivers) few within) refl where
  never : (most at_most cells : ℕ) → cells ≤ at_most → nat_le at_most most ≡ true → nat_lt most cells ≡ false
  never most at_most cells few within = grind (arith, nat_tests)

pub trims-first : (most : ℕ) (touched : List ℕ) (receivers : List (ℕ × Receiving)) → IsTouchOrder touched receivers → nat_le (cells_in receivers) most ≡ false
    → longest_untouched touched receivers ≡ first_of (trimmed most touched receivers)
unfolding trimmed
trims-first most [] receivers order past = refl
trims-first most (n ∷ touched) receivers order past = rw (many most (cells_in receivers) past) (by (find n receivers) kept) where
  many : (most cells : ℕ) → nat_le cells most ≡ false → nat_lt most cells ≡ true
  many most cells past = grind (arith, nat_tests)

  kept : is_some (find n receivers) ≡ true
  kept = sym (order.kept n) ∙ rw (eq-eqb n n refl) refl

  by : (found : Option Receiving) → is_some found ≡ true → option_map (λ r. n) found ≡ Some n
  by (Some r) is = refl
  by None is = absurd (cc)

-- ---- one is closed

untouched-none : (n : ℕ) (touched : List ℕ) → is_closed n touched ≡ false → untouched n touched ≡ touched
unfolding untouched
untouched-none n [] none = refl
untouched-none n (m ∷ touched) none = by (m == n) none (λ h. untouched-none n touched h) where
  by : (same : Bool) → (same || is_closed n touched) ≡ false → (is_closed n touched ≡ false → untouched n touched ≡ touched)
      → (if same then untouched n touched else m ∷ untouched n touched) ≡ m ∷ touched
  by true none rest = absurd (cc)
  by false none rest = ap (λ ms. m ∷ ms) (rest none)

front : (most n : ℕ) (touched : List ℕ) (receivers : List (ℕ × Receiving)) → Some n ≡ first_of (trimmed most touched receivers) → AreDistinct touched
    → trimmed most touched receivers ≡ n ∷ trimmed most (untouched n touched) (without n receivers)
unfolding trimmed untouched
front most n [] receivers is once = absurd (cc)
front most n (m ∷ touched) receivers is once = by (nat_lt most (cells_in receivers)) is where
  by : (many : Bool) → Some n ≡ first_of (if many then m ∷ trimmed most touched (without m receivers) else [])
      → (if many then m ∷ trimmed most touched (without m receivers) else []) ≡ n ∷ trimmed most (if m == n then untouched n touched else m ∷ untouched n touched) (without n receivers)
  by true is =
      let same : n ≡ m = cc in
      subst (λ k. (m ∷ trimmed most touched (without m receivers)) ≡ k ∷ trimmed most (if m == k then untouched k touched else m ∷ untouched k touched) (without k receivers)) (sym same)
      (rw (eq-eqb m m refl, untouched-none m touched once.0) refl)
  by false is = absurd (cc)

pub record TrimsOne (k : FaceKeys) (s next : Sessions) (n : ℕ) : Type 0 where
  pub gone : to_trim k s ≡ n ∷ to_trim k next
  pub goes_on : closes (to_trim k s) s ≡ closes (to_trim k next) next

pub trims-one : (k : FaceKeys) (s next : Sessions) (n : ℕ) → Some n ≡ first_of (to_trim k s) → AreDistinct (s.engine).touched → next ≡ left_by (with_receiver s.engine n ends) s.memory s.moments
    → TrimsOne k s next n
unfolding with_receiver closes
trims-one k s next n is once left = subst (λ (t : Sessions). TrimsOne k s t n) (sym left) (record {
  gone = all;
  goes_on = ap (λ (ns : List ℕ). closes ns s) all;
}) where
  all : to_trim k s ≡ n ∷ trimmed (half k.bounds) (untouched n (s.engine).touched) (without n (s.engine).receivers)
  all = front (half k.bounds) n (s.engine).touched (s.engine).receivers is once

pub trims-end : (k : FaceKeys) (s : Sessions) → None ≡ first_of (to_trim k s) → to_trim k s ≡ []
trims-end k s is = by (to_trim k s) is where
  by : (ns : List ℕ) → None ≡ first_of ns → ns ≡ []
  by [] is = refl
  by (n ∷ ns) is = absurd (cc)

pub closes-none : (ns : List ℕ) (s : Sessions) → ns ≡ [] → closes ns s ≡ s
unfolding closes
closes-none [] s is = refl
closes-none (n ∷ ns) s is = absurd (cc)

-- one receiving session less
pub trims-fewer : (s next : Sessions) (n : ℕ) → is_receiving n (s.engine).receivers ≡ true → next ≡ left_by (with_receiver s.engine n ends) s.memory s.moments
    → length (next.engine).receivers < length (s.engine).receivers
unfolding with_receiver
trims-fewer s next n kept left =
    subst (λ (t : Sessions). length (t.engine).receivers < length (s.engine).receivers) (sym left)
    (let fewer = length-without_found n (s.engine).receivers kept in omega (arith, fewer))

-- ---- the loop

with-last : {X : Type 0} (xs : List X) (x : X) (ys : List X) → (xs ++ x ∷ []) ++ ys ≡ xs ++ x ∷ ys
with-last [] x ys = refl
with-last (w ∷ xs) x ys = ap (λ zs. w ∷ zs) (with-last xs x ys)

pub trim-gone : (k now : FaceKeys) (s next : Sessions) (n : ℕ) (gone more all : List ℕ) → now ≡ k → TrimsOne k s next n → more ≡ gone ++ n ∷ [] → gone ++ to_trim k s ≡ all
    → more ++ to_trim now next ≡ all
trim-gone k now s next n gone more all same one added goes_on =
    ap (λ (f : FaceKeys). more ++ to_trim f next) same
    ∙ (ap (λ (ns : List ℕ). ns ++ to_trim k next) added
    ∙ (with-last gone n (to_trim k next)
    ∙ (ap (λ (ns : List ℕ). gone ++ ns) (sym one.gone) ∙ goes_on)))

pub trim-goes-on : (k now : FaceKeys) (s next all : Sessions) (n : ℕ) → now ≡ k → TrimsOne k s next n → closes (to_trim k s) s ≡ all → closes (to_trim now next) next ≡ all
trim-goes-on k now s next all n same one goes_on = ap (λ (f : FaceKeys). closes (to_trim f next) next) same ∙ (sym one.goes_on ∙ goes_on)
