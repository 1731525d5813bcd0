-- What a drain with old copies keeps of each session, and sums of ranks of which one changes.

use Rattle.std.proofs.Common.{◌≡◌, ◌≢◌, ℕ, zero, suc, ◌+◌, ◌*◌, ◌<◌, Bool, true, false, ◌==◌}
use Rattle.std.proofs.Common.{◌&&◌, List, refl, ap, arith, subst, if◌then◌else◌}
use Rattle.std.proofs.lemmas.Bool.{eq-eqb, eqb-false, eqb-true}
use Rattle.ltp_segment.specs.Values.{ContentValue}
use Rattle.ltp_session.specs.Engine.{Party}
use Rattle.ltp_session.specs.World.{End, Sent, World, at_end, first_end, other}
use Rattle.ltp_session.specs.World.{second_end}
use Rattle.ltp_laws.specs.Facts.{SessionFacts}
use Rattle.ltp_laws.specs.View.{View, said, same_end}
use Rattle.ltp_laws.proofs.FrameLemmas.{same_self}
use Rattle.ltp_drain.specs.Calm.{HasSerials}
use Rattle.ltp_drain.specs.Hopeful.{sum_below}
use Rattle.ltp_drain.specs.Standing.{Stands, setting, sum_of}
use Rattle.ltp_drain.proofs.DrainLists.{same_end-true}
use Rattle.ltp_picks.specs.Asking.{AsksLast}
use Rattle.ltp_picks.proofs.EchoLemmas.{echoes, plain}

-- ---- what a drain keeps of each session

-- it drains within its rank, what is new of cancels counted with it; it has serials for k old
-- copies more; and what is new after its checkpoint is it again
pub record Keeping (parties : Party × Party) (k : ℕ) (Old : ContentValue → Type 0)
    (new : List Sent) (m : ℕ) (o : End) (n : ℕ) (v : View) : Type 0 where
  pub left : ℕ
  pub stands :
      Stands SessionFacts (setting parties o n) v (plain (said o (at_end parties o).own n new))
      (plain (said (other o) (at_end parties o).own n new)) left
  pub count :
      left + echoes (said o (at_end parties o).own n new)
      + echoes (said (other o) (at_end parties o).own n new) ≡ m
  pub slack : HasSerials n v (m + 3 * k)
  pub asks : AsksLast Old v (plain (said o (at_end parties o).own n new))

-- ---- the rank of one session changes

-- the rank of one session is this
unfoldable pub changed_at : (End → ℕ → ℕ) → End → ℕ → ℕ → End → ℕ → ℕ
changed_at rank o' n' left o n = if same_end o o' && (n' == n) then left else rank o n

pub changed-here : (rank : End → ℕ → ℕ) (o : End) (n left : ℕ)
    → changed_at rank o n left o n ≡ left
unfolding changed_at
changed-here rank o n left = rw (same_self o, eq-eqb n n refl) refl

pub changed-away : (rank : End → ℕ → ℕ) (o' : End) (n' left : ℕ) (o : End) (n : ℕ)
    → (o ≡ o' → n' ≡ n → ⊥) → changed_at rank o' n' left o n ≡ rank o n
unfolding changed_at
changed-away rank o' n' left o n apart = by_tests (same_end o o') (n' == n) refl refl
  where
    by_tests : (a b : Bool) → same_end o o' ≡ a → (n' == n) ≡ b
        → (if a && b then left else rank o n) ≡ rank o n
    by_tests true true is_o is_n =
        absurd (apart (same_end-true o o' is_o) (eqb-true n' n is_n))
    by_tests true false is_o is_n = refl
    by_tests false b is_o is_n = refl

-- ---- sums

sum-same : (N : ℕ) (f g : ℕ → ℕ) → ((m : ℕ) → m < N → f m ≡ g m) → sum_below N f ≡ sum_below N g
unfolding sum_below
sum-same zero f g same = refl
sum-same (suc N) f g same = omega (
  arith,
  same N (omega arith),
  sum-same N f g (λ m low. same m (omega (arith, low))),
)

sum-at : (N n left : ℕ) (f g : ℕ → ℕ) → n < N → g n ≡ left → ((m : ℕ) → n ≢ m → g m ≡ f m)
    → sum_below N g + f n ≡ sum_below N f + left
unfolding sum_below
sum-at zero n left f g low here away = absurd (omega (arith, low))
sum-at (suc N) n left f g low here away = by_test (n == N) refl
    (λ deeper. sum-at N n left f g deeper here away)
  where
    by_test : (same : Bool) → (n == N) ≡ same
        → (n < N → sum_below N g + f n ≡ sum_below N f + left)
        → (g N + sum_below N g) + f n ≡ (f N + sum_below N f) + left
    by_test true is deeper =
        let one = eqb-true n N is in
        omega (
          arith,
          subst (λ (k : ℕ). g k ≡ left) one here,
          ap f one,
          sum-same N g f (λ m low. away m (λ h. absurd (omega (arith, h, low, one)))),
        )
    by_test false is deeper =
        omega (arith, away N (eqb-false n N is), deeper (omega (arith, eqb-false n N is, low)))

pub sum-changed : (w w' : World) (rank : End → ℕ → ℕ) (o' : End) (n' left : ℕ)
    → ((o : End) → (at_end w'.engines o).next ≡ (at_end w.engines o).next)
    → n' < (at_end w.engines o').next
    → sum_of w' (changed_at rank o' n' left) + rank o' n' ≡ sum_of w rank + left
sum-changed w w' rank first_end n' left next low =
    omega (
      arith,
      sum-at (at_end w.engines first_end).next n' left (rank first_end)
          (changed_at rank first_end n' left first_end) low
          (changed-here rank first_end n' left)
          (λ m apart. changed-away rank first_end n' left first_end m (λ h k. apart k)),
      sum-same (at_end w.engines second_end).next
          (changed_at rank first_end n' left second_end) (rank second_end)
          (λ m below. changed-away rank first_end n' left second_end m (λ h k. absurd (cc))),
      ap (λ (k : ℕ). sum_below k (changed_at rank first_end n' left first_end)) (next first_end),
      ap (λ (k : ℕ). sum_below k (changed_at rank first_end n' left second_end))
          (next second_end),
    )
sum-changed w w' rank second_end n' left next low =
    omega (
      arith,
      sum-at (at_end w.engines second_end).next n' left (rank second_end)
          (changed_at rank second_end n' left second_end) low
          (changed-here rank second_end n' left)
          (λ m apart. changed-away rank second_end n' left second_end m (λ h k. apart k)),
      sum-same (at_end w.engines first_end).next
          (changed_at rank second_end n' left first_end) (rank first_end)
          (λ m below. changed-away rank second_end n' left first_end m (λ h k. absurd (cc))),
      ap (λ (k : ℕ). sum_below k (changed_at rank second_end n' left first_end)) (next first_end),
      ap (λ (k : ℕ). sum_below k (changed_at rank second_end n' left second_end))
          (next second_end),
    )
