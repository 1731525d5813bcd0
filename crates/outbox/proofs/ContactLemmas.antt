-- What goes out goes while the link is open.

use Rattle.std.proofs.Common.{◌≡◌, ℕ, ◌+◌, Bool, true, false, ◌&&◌, List, [], ◌∷◌, ◌++◌, Option, None, Some, if◌then◌else◌, refl, ◌∙◌, inl, inr, subst, ◌⊎◌}
use Rattle.std.specs.Prelude.{IsSomeAnd}
use Rattle.std.specs.Option.{is_some}
use Rattle.std.specs.List.{AllByRecursion, position_from}
use Rattle.contact_plan.specs.declared.window.Window.{Window}
use Rattle.contact_plan.specs.Windows.{is_open, lies_in}
use Rattle.contact_plan.proofs.ContactLemmas.{bool-cases, open-in-first, open-in-rest}
use Rattle.outbox.specs.declared.reading.Reading.{Reading}
use Rattle.outbox.specs.Laws.{GoesOutInContact, IsOpenAt}
use Rattle.outbox.specs.Outbox.{OutboxValue, contact_by, first_of, is_paced, rate_now}
use Rattle.outbox.specs.Run.{Call, Tried, after_call, puts, reads, refuses, sends, tried, tried_by, tries}
use Rattle.outbox.specs.Schedule.{ScheduleValue, contact_in}

-- a window that lies first is the plan of it alone
alone : (w : Window) (t : ℕ) (b : Bool) → lies_in w t ≡ b → is_open (w ∷ []) t ≡ b
alone w t true is = rw is refl
alone w t false is = rw is refl

-- a moment that lies in some window is open
open-by-index : (n : ℕ) (ws : List Window) (t : ℕ) → is_some (position_from (λ w. lies_in w t) n ws) ≡ true → is_open ws t ≡ true
open-by-index n [] t is = absurd (cc)
open-by-index n (w ∷ ws) t is = elim (bool-cases (lies_in w t)) [
  | inl lies ↦ open-in-first w ws t (alone w t true lies)
  | inr not_in ↦ (
      let rest : is_some (position_from (λ w. lies_in w t) (n + 1) ws) ≡ true = rw not_in at is in
      open-in-rest w ws t (alone w t false not_in) ∙ open-by-index (n + 1) ws t rest
      )
]

open-at : (windows : List Window) (t : ℕ) → is_some (contact_in windows t) ≡ true → (windows ≡ []) ⊎ (is_open windows t ≡ true)
open-at [] t is = inl refl
open-at (w ∷ ws) t is = inr (open-by-index 0 (w ∷ ws) t is)

-- what is said of those that go out
abbrev Out : ScheduleValue → Tried → Type 0
Out s t = IsSomeAnd t.reading (λ now. IsOpenAt s now.wall)

out-one : (s : ScheduleValue) (reading : Option Reading) (datagram : List ℕ) → is_some (contact_by s reading) ≡ true → Out s (record { datagram = datagram; reading = reading })
out-one s None datagram is = absurd (cc)
out-one s (Some now) datagram is = open-at s.windows now.wall is

out-step : (s : ScheduleValue) (reading : Option Reading) (open_now paced : Bool) (waiting : List (List ℕ)) → is_some (contact_by s reading) ≡ open_now
    → AllByRecursion (Out s) (tries (if open_now && paced then first_of waiting else None) reading)
out-step s reading true true [] is = tt
out-step s reading true true (datagram ∷ datagrams) is = (out-one s reading datagram is, tt)
out-step s reading true false waiting is = tt
out-step s reading false true waiting is = tt
out-step s reading false false waiting is = tt

out-call : (b : OutboxValue) (call : Call) → AllByRecursion (Out b.schedule) (tried_by b call)
out-call b (reads now) = tt
out-call b (puts datagram) = tt
out-call b refuses = tt
out-call b sends = out-step b.schedule b.reading (is_some (contact_by b.schedule b.reading)) (is_paced (rate_now b) b.debt) b.waiting refl

all-append : {X : Type 0} (P : X → Type 0) (xs ys : List X) → AllByRecursion P xs → AllByRecursion P ys → AllByRecursion P (xs ++ ys)
all-append P [] ys first rest = rest
all-append P (x ∷ xs) ys first rest = (first.0, all-append P xs ys first.1 rest)

-- the schedule never changes
same-schedule : (b : OutboxValue) (call : Call) → (after_call b call).schedule ≡ b.schedule
same-schedule b (reads now) = refl
same-schedule b (puts datagram) = refl
same-schedule b refuses = refl
same-schedule b sends = refl

pub goes-out-in-contact : GoesOutInContact
goes-out-in-contact b [] = tt
goes-out-in-contact b (call ∷ calls) =
    let rest = goes-out-in-contact (after_call b call) calls in
    all-append (Out b.schedule) (tried_by b call) (tried (after_call b call) calls) (out-call b call)
    (subst (λ (s : ScheduleValue). AllByRecursion (Out s) (tried (after_call b call) calls)) (same-schedule b call) rest)
