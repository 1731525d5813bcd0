-- What isn't new in a drain, and the code's search for what is, step by step.

use Rattle.std.proofs.Common.{◌≡◌, ℕ, zero, suc, ◌+◌, ◌<◌, ◌≤◌, Bool, true, false, not, ◌==◌}
use Rattle.std.proofs.Common.{List, [], ◌∷◌, length, drop, Option, Some}
use Rattle.std.proofs.Common.{refl, sym, ◌∙◌, ap, arith, subst, nat_lt, nat_le, IfSome}
use Rattle.std.proofs.Common.{if◌then◌else◌}
use Rattle.std.proofs.lemmas.Bool.{eq-eqb, ne_eqb}
use Rattle.std.proofs.lemmas.Bool.Decides.{nat_tests}
use Rattle.std.specs.List.{list_any, slice_get}
use Rattle.ltp_session.specs.World.{at_end}
use Rattle.ltp_session.specs.World.{Sent as LinkSent}
use Rattle.ltp_drain.proofs.CleanSteps.{drop-end, taken}
use Rattle.ltp_picks.specs.Picks.{Crossing, is_old}
use Rattle.ltp_world.specs.declared.ends.End.{End as CodeEnd}
use Rattle.ltp_world.specs.declared.sent.Sent.{Sent}
use Rattle.ltp_world.specs.Ends.{is_end}
use Rattle.ltp_world.specs.Marks.{new_from, next_place}
use Rattle.ltp_world.proofs.MarkLemmas.{high-le, le-is, le-not, low-le}

-- ---- what isn't new

not-any : (i k : ℕ) (marks : ℕ × ℕ) (ds : List LinkSent) → i < k
    → list_any (λ e. e.place == i) (new_from k marks ds) ≡ false
unfolding new_from
not-any i k marks [] low = refl
not-any i k marks (d ∷ ds) low = by_test (nat_le (at_end marks d.from) k)
    (not-any i (k + 1) marks ds (omega (arith, low)))
  where
    by_test : (b : Bool) → list_any (λ e. e.place == i) (new_from (k + 1) marks ds) ≡ false
        → list_any (λ e. e.place == i)
        (if b then record { place = k; sent = d } ∷ new_from (k + 1) marks ds
        else new_from (k + 1) marks ds) ≡ false
    by_test true rest = rw (ne_eqb k i (λ h. absurd (omega (arith, h, low))), rest) refl
    by_test false rest = rest

any-new : (i k : ℕ) (marks : ℕ × ℕ) (ds : List LinkSent) (x : LinkSent)
    → slice_get ds i ≡ Some x
    → list_any (λ e. e.place == k + i) (new_from k marks ds) ≡ nat_le (at_end marks x.from) (k + i)
unfolding new_from
any-new i k marks [] x is = absurd (cc)
any-new zero k marks (d ∷ ds) x is =
    let one : d ≡ x = cc in
    subst (λ (x : LinkSent). list_any (λ e. e.place == k + 0)
    (if nat_le (at_end marks d.from) k
    then record { place = k; sent = d } ∷ new_from (k + 1) marks ds
    else new_from (k + 1) marks ds) ≡ nat_le (at_end marks x.from) (k + 0)) one
    (by_test (nat_le (at_end marks d.from) k) refl)
  where
    by_test : (b : Bool) → nat_le (at_end marks d.from) k ≡ b
        → list_any (λ e. e.place == k + 0)
        (if b then record { place = k; sent = d } ∷ new_from (k + 1) marks ds
        else new_from (k + 1) marks ds) ≡ nat_le (at_end marks d.from) (k + 0)
    by_test true b = rw (eq-eqb k (k + 0) (omega arith))
        (sym (low-le (at_end marks d.from) (k + 0) (omega (arith, le-is (at_end marks d.from) k b))))
    by_test false b = not-any (k + 0) (k + 1) marks ds (omega arith)
        ∙ sym (high-le (at_end marks d.from) (k + 0)
        (omega (arith, le-not (at_end marks d.from) k b)))
any-new (suc i) k marks (d ∷ ds) x is = by_test (nat_le (at_end marks d.from) k)
    (subst (λ (j : ℕ). list_any (λ e. e.place == j) (new_from (k + 1) marks ds)
    ≡ nat_le (at_end marks x.from) j) (omega arith) (any-new i (k + 1) marks ds x is))
  where
    by_test : (b : Bool) → list_any (λ e. e.place == k + suc i) (new_from (k + 1) marks ds)
        ≡ nat_le (at_end marks x.from) (k + suc i)
        → list_any (λ e. e.place == k + suc i)
        (if b then record { place = k; sent = d } ∷ new_from (k + 1) marks ds
        else new_from (k + 1) marks ds) ≡ nat_le (at_end marks x.from) (k + suc i)
    by_test true rest = rw (ne_eqb k (k + suc i) (λ h. absurd (omega (arith, h)))) rest
    by_test false rest = rest

zero-plus : (k : ℕ) → 0 + k ≡ k
zero-plus k = omega arith

-- a segment isn't new where it is before the mark of its end
pub old-is : (d : Crossing) (marks : ℕ × ℕ) (k : ℕ) (x : LinkSent)
    → d.new ≡ new_from 0 marks d.world.sent → k < length d.world.sent
    → slice_get d.world.sent k ≡ Some x → is_old d k ≡ not (nat_le (at_end marks x.from) k)
old-is d marks k x new low is =
    rw (below k (length d.world.sent) low, new) (ap not
    (subst (λ (j : ℕ). list_any (λ e. e.place == j) (new_from 0 marks d.world.sent)
    ≡ nat_le (at_end marks x.from) j) (zero-plus k) (any-new k 0 marks d.world.sent x is)))
  where
    below : (a b : ℕ) → a < b → nat_lt a b ≡ true
    below a b low = grind (arith, nat_tests)

pub not-there : (d : Crossing) (k : ℕ) → length d.world.sent ≤ k → is_old d k ≡ false
not-there d k high = rw (above k (length d.world.sent) high) refl
  where
    above : (a b : ℕ) → b ≤ a → nat_lt a b ≡ false
    above a b high = grind (arith, nat_tests)

-- ---- the code's search, step by step

suc-plus : (k : ℕ) → suc k ≡ k + 1
suc-plus k = omega arith

record Stands (sent : List Sent) (k : ℕ) : Type 0 where
  x : Sent
  got : slice_get sent k ≡ Some x
  rest : drop k sent ≡ x ∷ drop (k + 1) sent

stands : (sent : List Sent) (k : ℕ) → k < length sent → Stands sent k
stands sent k low =
    let t = taken sent k low in
    record { x = t.x; got = t.got; rest = t.rest ∙ ap (λ (j : ℕ). t.x ∷ drop j sent) (suc-plus k) }

is-from : (sent : List Sent) (k : ℕ) (x : Sent) (from end : CodeEnd) (is : Bool)
    → slice_get sent k ≡ Some x → IfSome (slice_get sent k) (λ sent. from ≡ sent.from)
    → is ≡ is_end from end → is_end x.from end ≡ is
is-from sent k x from end is got from_is is_end_is =
    let same : from ≡ x.from = subst (λ (o : Option Sent). IfSome o (λ sent. from ≡ sent.from)) got
    from_is in
    sym (is_end_is ∙ ap (λ (e : CodeEnd). is_end e end) same)

pub place-later : (end : CodeEnd) (k : ℕ) (sent : List Sent) (from : CodeEnd) (is : Bool)
    → k < length sent → IfSome (slice_get sent k) (λ sent. from ≡ sent.from)
    → is ≡ is_end from end → is ≡ false
    → next_place end k (drop k sent) ≡ next_place end (k + 1) (drop (k + 1) sent)
unfolding next_place
place-later end k sent from is low from_is is_end_is another =
    let s = stands sent k low in
    ap (next_place end k) s.rest
    ∙ rw (is-from sent k s.x from end is s.got from_is is_end_is, another) refl

pub place-here : (end : CodeEnd) (k : ℕ) (sent : List Sent) (from : CodeEnd) (is : Bool)
    → k < length sent → IfSome (slice_get sent k) (λ sent. from ≡ sent.from)
    → is ≡ is_end from end → is ≡ true → next_place end k (drop k sent) ≡ k
unfolding next_place
place-here end k sent from is low from_is is_end_is this =
    let s = stands sent k low in
    ap (next_place end k) s.rest
    ∙ rw (is-from sent k s.x from end is s.got from_is is_end_is, this) refl

pub place-end : (end : CodeEnd) (k : ℕ) (sent : List Sent) → length sent ≤ k
    → next_place end k (drop k sent) ≡ k
unfolding next_place
place-end end k sent high = ap (next_place end k) (drop-end sent k high)
