-- When what goes out at a face goes, and how the face's time goes, by the laws of its outbox.

use Rattle.std.proofs.Common.{◌≡◌, ℕ, ◌≤◌, ◌+◌, ◌-◌, ◌*◌, ◌/◌, Bool, List, [], ◌∷◌, ◌++◌, Option, Some, ◌⊎◌, refl, ap, ◌∙◌, sym, subst, arith, append_assoc}
use Rattle.std.proofs.lemmas.List.{map-append}
use Rattle.std.specs.Prelude.{IsSomeAnd}
use Rattle.std.specs.List.{AllByRecursion}
use Rattle.gate_cases.specs.declared.face.Face.{Face}
use Rattle.gate_cases.specs.declared.face.Face.TheVariants as faces
use Rattle.gate_cases.specs.Faces.{other_of}
use Rattle.contact_plan.specs.declared.window.Window.{Window}
use Rattle.outbox.specs.declared.reading.Reading.{Reading}
use Rattle.outbox.specs.FaceTime.{FaceMoment, face_at, gone_on, growth}
use Rattle.outbox.specs.Laws.{IsOpenAt, KeepsPace, TimeStays}
use Rattle.outbox.specs.Outbox.{OutboxValue, after_reading, octets_in}
use Rattle.outbox.specs.Run as box
use Rattle.outbox.specs.Run.{Call, StaysIn, datagrams_of, last_monotonic, longest, puts, reads, refuses, sends}
use Rattle.outbox.specs.Schedule.{ScheduleValue}
use Rattle.peer_gateway.specs.Gate.{PeerMoments}
use Rattle.peer_half.specs.Standing.{Standing, face_of}
use Rattle.peer_half.specs.Acts.{Acted}
use Rattle.peer_half.specs.Half.{Came, half}
use Rattle.peer_half.specs.Laws.{GoesInContact, tried_at}
use Rattle.peer_half.specs.Run.{halves}
use Rattle.peer_half.specs.Runs.{EventIn, Run, after_events, begins_at, events_in}
use Rattle.peer_run_laws.specs.Faces.{AreInContact, ClockRises, GoesInContactInRuns, KeepsPaceInRuns, LieIn, TimeIsHeld, TimeIsOfHalf, TimeRises, last_clock, moments_in, plan_of}
use Rattle.peer_run_laws.proofs.WalkLemmas.{Keeps, keeps-hears}
use Rattle.peer_run_laws.proofs.BoxLemmas.{Box, NoneReads, fed-begins, half-is, starts_box, tried-append}

-- ---- time

time-half : (came : Came) (s : Standing) (at : Face)
    → face_at (face_of at s).outbox (face_of at s).time came.reading ≡ record { moment = (moments_in came s).at at; reading = came.reading }
time-half came s faces.Old = refl
time-half came s faces.New = refl

-- the events of a half are at its moments
abbrev IsAt : PeerMoments → EventIn → Type 0
IsAt m event = event.1.0 ≡ m

record AreAt (m : PeerMoments) (s : Standing) (events : List EventIn) : Type 0 where
  now : s.moments ≡ m
  all : AllByRecursion (IsAt m) events

at-keeps : (m : PeerMoments) → Keeps (AreAt m)
at-keeps m = record {
  quiet = λ s t earlier same so. record { now = ap (λ (x : Standing). x.moments) (sym same) ∙ so.now; all = so.all };
  event = λ event journal s earlier so. record { now = so.now; all = (so.now, so.all) };
}

-- of events the newest first, and the oldest first
all-after : (m : PeerMoments) (events earlier : List EventIn) → AllByRecursion (IsAt m) (after_events events earlier) → AllByRecursion (IsAt m) events × AllByRecursion (IsAt m) earlier
all-after m [] earlier all = (tt, all)
all-after m (event ∷ events) earlier all =
    let rest = all-after m events (event ∷ earlier) all in ((rest.1.0, rest.0), rest.1.1)

events-at : (face : Face) (came : Came) (s : Standing) → AllByRecursion (IsAt (moments_in came s)) (events_in face came s)
events-at face came s =
    let m = moments_in came s in
    (all-after m (events_in face came s) []
    (keeps-hears (AreAt m) (at-keeps m) face came s [] (record { now = refl; all = tt })).all).0

pub time-is-of-half : TimeIsOfHalf
time-is-of-half board face came s at = record {
  time = (half-is board at face came s).time_is ∙ ap (λ (f : FaceMoment). Some f) (time-half came s at);
  events = events-at face came s;
}

face-time : (board : Bool) (face : Face) (came : Came) (s : Standing) (at : Face) (before : FaceMoment) → (face_of at s).time ≡ Some before
    → (face_of at (half board face came s).standing).time ≡ Some (face_at (face_of at s).outbox (Some before) came.reading)
face-time board face came s at before is =
    (half-is board at face came s).time_is ∙ ap (λ (t : Option FaceMoment). Some (face_at (face_of at s).outbox t came.reading)) is

-- a face's moment grows by no more than the monotonic clock does
grown : (waiting : List (List ℕ)) (windows : List Window) (before now : Reading) → growth waiting windows before now ≤ now.monotonic - before.monotonic
grown [] [] before now = omega arith
grown [] (window ∷ windows) before now = omega arith
grown (datagram ∷ datagrams) windows before now = omega arith

-- it goes on by so much, but not past the last one
rises-by : (moment time most : ℕ) → time ≤ most → (moment ≤ gone_on moment time) × (gone_on moment time ≤ moment + most)
rises-by moment time most few = (omega arith, omega (arith, few))

pub time-rises : TimeRises
time-rises s at before board face came is =
    let b = (face_of at s).outbox in
    let now = came.reading in
    let windows = (b.schedule).windows in
    subst (λ (t : Option FaceMoment). IsSomeAnd t (λ now. (before.moment ≤ now.moment) × (now.moment ≤ before.moment + ((came.reading).monotonic - (before.reading).monotonic))))
    (sym (face-time board face came s at before is))
    (rises-by before.moment (growth b.waiting windows before.reading now) (now.monotonic - (before.reading).monotonic) (grown b.waiting windows before.reading now))

pub time-is-held : TimeStays → TimeIsHeld
time-is-held law s at before board face came is held =
    subst (λ (t : Option FaceMoment). IsSomeAnd t (λ now. now.moment ≡ before.moment)) (sym (face-time board face came s at before is))
    (law (face_of at s).outbox before (reads came.reading ∷ []) (held, tt))

-- ---- contact

schedule-run : (calls : List Call) (b : OutboxValue) → (box.run b calls).schedule ≡ b.schedule
schedule-run [] b = refl
schedule-run (reads now ∷ calls) b = schedule-run calls (box.after_call b (reads now))
schedule-run (puts datagram ∷ calls) b = schedule-run calls (box.after_call b (puts datagram))
schedule-run (refuses ∷ calls) b = schedule-run calls (box.after_call b refuses)
schedule-run (sends ∷ calls) b = schedule-run calls (box.after_call b sends)

pub schedule-half : (board : Bool) (at face : Face) (came : Came) (s : Standing)
    → ((face_of at (half board face came s).standing).outbox).schedule ≡ ((face_of at s).outbox).schedule
schedule-half board at face came s =
    let it = half-is board at face came s in
    ap (λ (b : OutboxValue). b.schedule) it.outbox_is ∙ schedule-run it.calls (after_reading (face_of at s).outbox came.reading)

contact-halves : GoesInContact → (board : Bool) (at face : Face) (comes : List Came) (s : Standing) (plan : ScheduleValue) → ((face_of at s).outbox).schedule ≡ plan
    → AreInContact plan at board face comes s
unfolding AreInContact
contact-halves law board at face [] s plan is = tt
contact-halves law board at face (came ∷ more) s plan is =
    let rest = contact-halves law board at (other_of face) more (half board face came s).standing plan (schedule-half board at face came s ∙ is) in
    (subst (λ (p : ScheduleValue). (tried_at at (half board face came s).acts ≡ []) ⊎ IsOpenAt p (came.reading).wall) is (law board face came s at), rest)

pub schedule-at : (r : Run) (at : Face) → ((face_of at (begins_at r)).outbox).schedule ≡ plan_of r at
schedule-at r at =
    let fed = fed-begins r at in
    ap (λ (x : Box). x.0.schedule) fed.box_is ∙ (schedule-run fed.calls (starts_box r at).0 ∙ by_face at)
  where
    by_face : (at : Face) → (starts_box r at).0.schedule ≡ plan_of r at
    by_face faces.Old = refl
    by_face faces.New = refl

pub goes-in-contact-in-runs : GoesInContact → GoesInContactInRuns
goes-in-contact-in-runs law r at = contact-halves law r.board at faces.Old r.comes (begins_at r) (plan_of r at) (schedule-at r at)

-- ---- pace

stays-unread : (plan : ScheduleValue) (contact : ℕ) (calls rest : List Call) → NoneReads calls → StaysIn plan contact rest → StaysIn plan contact (calls ++ rest)
stays-unread plan contact [] rest unread so = so
stays-unread plan contact (reads now ∷ calls) rest unread so = absurd unread
stays-unread plan contact (puts datagram ∷ calls) rest unread so = stays-unread plan contact calls rest unread so
stays-unread plan contact (refuses ∷ calls) rest unread so = stays-unread plan contact calls rest unread so
stays-unread plan contact (sends ∷ calls) rest unread so = stays-unread plan contact calls rest unread so

rises-unread : (m : ℕ) (calls rest : List Call) → NoneReads calls → box.Rises m rest → box.Rises m (calls ++ rest)
rises-unread m [] rest unread so = so
rises-unread m (reads now ∷ calls) rest unread so = absurd unread
rises-unread m (puts datagram ∷ calls) rest unread so = rises-unread m calls rest unread so
rises-unread m (refuses ∷ calls) rest unread so = rises-unread m calls rest unread so
rises-unread m (sends ∷ calls) rest unread so = rises-unread m calls rest unread so

last-unread : (m : ℕ) (calls rest : List Call) → NoneReads calls → last_monotonic m (calls ++ rest) ≡ last_monotonic m rest
last-unread m [] rest unread = refl
last-unread m (reads now ∷ calls) rest unread = absurd unread
last-unread m (puts datagram ∷ calls) rest unread = last-unread m calls rest unread
last-unread m (refuses ∷ calls) rest unread = last-unread m calls rest unread
last-unread m (sends ∷ calls) rest unread = last-unread m calls rest unread

-- what went out at a face in some halves is what these calls of its outbox made
record IsRun (b : OutboxValue) (comes : List Came) (datagrams : List (List ℕ)) : Type 0 where
  calls : List Call
  tried_is : datagrams ≡ datagrams_of (box.tried b calls)
  stays : (plan : ScheduleValue) (contact : ℕ) → LieIn plan contact comes → StaysIn plan contact calls
  rises : (m : ℕ) → ClockRises m comes → box.Rises m calls
  last : (m : ℕ) → last_monotonic m calls ≡ last_clock m comes

tried-join : (b : OutboxValue) (first rest : List Call) → datagrams_of (box.tried b (first ++ rest)) ≡ datagrams_of (box.tried b first) ++ datagrams_of (box.tried (box.run b first) rest)
tried-join b [] rest = refl
tried-join b (call ∷ first) rest =
    map-append (λ t. t.datagram) (box.tried_by b call) (box.tried (box.after_call b call) (first ++ rest))
    ∙ (ap (λ ds. datagrams_of (box.tried_by b call) ++ ds) (tried-join (box.after_call b call) first rest)
    ∙ (sym (append_assoc (datagrams_of (box.tried_by b call)) (datagrams_of (box.tried (box.after_call b call) first)) (datagrams_of (box.tried (box.run (box.after_call b call) first) rest)))
    ∙ ap (λ ds. ds ++ datagrams_of (box.tried (box.run (box.after_call b call) first) rest))
    (sym (map-append (λ t. t.datagram) (box.tried_by b call) (box.tried (box.after_call b call) first)))))

-- a half, and others after it: the first reading is told apart
first-is : (board : Bool) (at face : Face) (came : Came) (more : List Came) (s : Standing)
    → IsRun (face_of at (half board face came s).standing).outbox more (tried_at at (halves board (other_of face) more (half board face came s).standing).acts)
    → IsRun (after_reading (face_of at s).outbox came.reading) more (tried_at at (halves board face (came ∷ more) s).acts)
unfolding halves
first-is board at face came more s rest =
    let it = half-is board at face came s in
    let b : OutboxValue = after_reading (face_of at s).outbox came.reading in
    let now : Acted = half board face came s in
    let later : Acted = halves board (other_of face) more now.standing in
    record {
      calls = it.calls ++ rest.calls;
      tried_is = tried-append at now.acts later.acts
          ∙ (ap (λ xs. xs ++ tried_at at later.acts) it.tried_is
          ∙ (ap (λ xs. datagrams_of (box.tried b it.calls) ++ xs)
          (rest.tried_is ∙ ap (λ (x : OutboxValue). datagrams_of (box.tried x rest.calls)) it.outbox_is)
          ∙ sym (tried-join b it.calls rest.calls)));
      stays = λ plan contact lies. stays-unread plan contact it.calls rest.calls it.unread (rest.stays plan contact lies);
      rises = λ m up. rises-unread m it.calls rest.calls it.unread (rest.rises m up);
      last = λ m. last-unread m it.calls rest.calls it.unread ∙ rest.last m;
    }

halves-are : (board : Bool) (at face : Face) (comes : List Came) (s : Standing) → IsRun (face_of at s).outbox comes (tried_at at (halves board face comes s).acts)
unfolding halves
halves-are board at face [] s = record {
  calls = [];
  tried_is = refl;
  stays = λ plan contact lies. tt;
  rises = λ m up. tt;
  last = λ m. refl;
}
halves-are board at face (came ∷ more) s =
    let rest = halves-are board at (other_of face) more (half board face came s).standing in
    let first = first-is board at face came more s rest in
    record {
      calls = reads came.reading ∷ first.calls;
      tried_is = first.tried_is;
      stays = λ plan contact lies. (lies.0, first.stays plan contact lies.1);
      rises = λ m up. (up.0, first.rises (came.reading).monotonic up.1);
      last = λ m. first.last (came.reading).monotonic;
    }

pace-said : (rate first last : ℕ) (end : ℕ) (datagrams tried : List (List ℕ)) → datagrams ≡ tried → end ≡ last
    → octets_in tried ≤ rate * (end - first + 10) / 1000 + longest tried → octets_in datagrams ≤ rate * (last - first + 10) / 1000 + longest datagrams
pace-said rate first last end datagrams tried same ends so =
    subst (λ (e : ℕ). octets_in datagrams ≤ rate * (e - first + 10) / 1000 + longest datagrams) ends
    (subst (λ (ds : List (List ℕ)). octets_in ds ≤ rate * (end - first + 10) / 1000 + longest ds) (sym same) so)

pub keeps-pace-in-runs : KeepsPace → KeepsPaceInRuns
keeps-pace-in-runs law s at contact rate board face came more has lies up =
    let first = first-is board at face came more s (halves-are board at (other_of face) more (half board face came s).standing) in
    let b : OutboxValue = (face_of at s).outbox in
    pace-said rate (came.reading).monotonic (last_clock (came.reading).monotonic more) (last_monotonic (came.reading).monotonic first.calls)
    (tried_at at (halves board face (came ∷ more) s).acts) (datagrams_of (box.tried (after_reading b came.reading) first.calls))
    first.tried_is (first.last (came.reading).monotonic)
    (law b came.reading contact rate first.calls lies.0 has (first.stays b.schedule contact lies.1) (first.rises (came.reading).monotonic up))
