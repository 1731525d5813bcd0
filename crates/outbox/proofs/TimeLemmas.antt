-- How a face's time goes on.

use Rattle.std.proofs.Common.{◌≡◌, ◌≢◌, ℕ, zero, suc, ◌+◌, ◌-◌, ◌<◌, ◌≤◌, false, List, [], ◌∷◌, Some, refl, ◌∙◌, arith, inl, inr}
use Rattle.std.proofs.lemmas.Bool.{cases_lt}
use Rattle.contact_plan.specs.declared.window.Window.{Window}
use Rattle.contact_plan.specs.Windows.{elapsed, is_open}
use Rattle.contact_plan.proofs.ContactLemmas.{elapsed-up}
use Rattle.outbox.specs.declared.reading.Reading.{Reading}
use Rattle.outbox.specs.FaceTime.{FaceMoment, face_at, gone_on, growth, open_time}
use Rattle.outbox.specs.Laws.{IsHeldAt, TimeGoesOn, TimeStays}
use Rattle.outbox.specs.Outbox.{OutboxValue}
use Rattle.outbox.specs.Run.{Call, Rises, after_call, last_monotonic, puts, reads, refuses, sends, time_by}

-- ---- it goes on

pub gone-up : (moment time : ℕ) → moment ≤ gone_on moment time
gone-up moment time = omega arith

gone-most : (moment time : ℕ) → gone_on moment time ≤ moment + time
gone-most moment time = omega arith

gone-none : (moment time : ℕ) → time ≡ 0 → gone_on moment time ≡ moment
gone-none moment time none = omega (arith, none)

open-most : (windows : List Window) (before now : Reading) → open_time windows before now ≤ now.monotonic - before.monotonic
open-most [] before now = omega arith
open-most (w ∷ ws) before now = omega arith

growth-most : (waiting : List (List ℕ)) (windows : List Window) (before now : Reading) → growth waiting windows before now ≤ now.monotonic - before.monotonic
growth-most [] windows before now = open-most windows before now
growth-most (d ∷ ds) windows before now = omega arith

pub last-up : (m : ℕ) (calls : List Call) → Rises m calls → m ≤ last_monotonic m calls
last-up m [] rises = omega arith
last-up m (reads now ∷ calls) rises = let rest = last-up now.monotonic calls rises.1 in let first = rises.0 in omega (arith, rest, first)
last-up m (puts datagram ∷ calls) rises = last-up m calls rises
last-up m (refuses ∷ calls) rises = last-up m calls rises
last-up m (sends ∷ calls) rises = last-up m calls rises

pub time-goes-on : TimeGoesOn
time-goes-on b face [] rises = (omega arith, omega arith)
time-goes-on b face (reads now ∷ calls) rises =
    let next : FaceMoment = face_at b (Some face) now in
    let rest = time-goes-on (after_call b (reads now)) (face_at b (Some face) now) calls rises.1 in
    let low = gone-up face.moment (growth b.waiting (b.schedule).windows face.reading now) in
    let high = gone-most face.moment (growth b.waiting (b.schedule).windows face.reading now) in
    let most = growth-most b.waiting (b.schedule).windows face.reading now in
    let up = last-up now.monotonic calls rises.1 in
    let first = rises.0 in
    let rest_low = rest.0 in
    let rest_high = rest.1 in
    (omega (arith, low, rest_low), omega (arith, high, most, rest_high, up, first))
time-goes-on b face (puts datagram ∷ calls) rises = time-goes-on (after_call b (puts datagram)) face calls rises
time-goes-on b face (refuses ∷ calls) rises = time-goes-on (after_call b refuses) face calls rises
time-goes-on b face (sends ∷ calls) rises = time-goes-on (after_call b sends) face calls rises

-- ---- it stays

closed-stands : (windows : List Window) (t : ℕ) → is_open windows t ≡ false → elapsed windows (suc t) ≡ elapsed windows t
unfolding elapsed
closed-stands windows t closed = rw closed (omega arith)

closed-elapsed : (windows : List Window) (from to : ℕ) → ((moment : ℕ) → from ≤ moment → moment < to → is_open windows moment ≡ false)
    → elapsed windows to ≤ elapsed windows from
closed-elapsed windows from zero closed = elapsed-up windows zero from (omega arith)
closed-elapsed windows from (suc t) closed = elim (cases_lt t from) [
  | inl early ↦ elapsed-up windows (suc t) from (omega (arith, early))
  | inr since ↦ (
      let stands = closed-stands windows t (closed t since (omega arith)) in
      let rest = closed-elapsed windows from t (λ moment low high. closed moment low (omega (arith, high))) in
      omega (arith, stands, rest)
      )
]

closed-time : (windows : List Window) (before now : Reading) → (windows ≢ [])
    → ((moment : ℕ) → before.wall ≤ moment → moment < now.wall → is_open windows moment ≡ false)
    → open_time windows before now ≡ 0
closed-time [] before now some closed = absurd (some refl)
closed-time (w ∷ ws) before now some closed =
    let none = closed-elapsed (w ∷ ws) before.wall now.wall closed in omega (arith, none)

growth-waits : (waiting : List (List ℕ)) (windows : List Window) (before now : Reading) → (waiting ≢ []) → growth waiting windows before now ≡ 0
growth-waits [] windows before now some = absurd (some refl)
growth-waits (d ∷ ds) windows before now some = refl

growth-closed : (waiting : List (List ℕ)) (windows : List Window) (before now : Reading) → open_time windows before now ≡ 0 → growth waiting windows before now ≡ 0
growth-closed [] windows before now none = none
growth-closed (d ∷ ds) windows before now none = refl

held-growth : (b : OutboxValue) (face : FaceMoment) (now : Reading) → IsHeldAt b face (reads now) → growth b.waiting (b.schedule).windows face.reading now ≡ 0
held-growth b face now held = elim held [
  | inl waits ↦ growth-waits b.waiting (b.schedule).windows face.reading now waits
  | inr closed ↦ growth-closed b.waiting (b.schedule).windows face.reading now
      (closed-time (b.schedule).windows face.reading now closed.contacts closed.closed)
]

held-step : (b : OutboxValue) (face : FaceMoment) (call : Call) → IsHeldAt b face call → (time_by b face call).moment ≡ face.moment
held-step b face (reads now) held = gone-none face.moment (growth b.waiting (b.schedule).windows face.reading now) (held-growth b face now held)
held-step b face (puts datagram) held = refl
held-step b face refuses held = refl
held-step b face sends held = refl

pub time-stays : TimeStays
time-stays b face [] held = refl
time-stays b face (call ∷ calls) held =
    time-stays (after_call b call) (time_by b face call) calls held.1 ∙ held-step b face call held.0
