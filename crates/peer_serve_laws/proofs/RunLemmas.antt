-- A run that is set up as `serve` sends what `serve` sends.

use Rattle.std.proofs.Common.{◌≡◌, ℕ, zero, suc, ◌+◌, ◌-◌, ◌<◌, ◌≤◌, ◌^◌, min, Bool, true, false, ◌||◌, if◌then◌else◌, List, [], ◌∷◌, ◌++◌, length, map, Option, None, Some, refl, ap, ◌∙◌, sym, subst, arith, append_assoc}
use Rattle.std.proofs.Math.Nat.{min-eq_left}
use Rattle.std.proofs.lemmas.List.{append-nil}
use Rattle.std.specs.List.{AllByRecursion}
use Rattle.spans.proofs.Places.{length-uncovered}
use Rattle.ltp_segment.specs.Reading.{segment_of}
use Rattle.gate_cases.specs.declared.face.Face.{Face}
use Rattle.gate_cases.specs.declared.face.Face.TheVariants as faces
use Rattle.gate_cases.specs.Faces.{other_of}
use Rattle.face_room.specs.Queues.{puts}
use Rattle.gateway_core.specs.Effects.{routed_of}
use Rattle.gateway_core.specs.Gate.{Gate, GateSetup, GateStep, RoutedValue, arrives_at, at_face, starts_gate, ticks_gate}
use Rattle.contact_plan.specs.declared.window.Window.{Window}
use Rattle.journal_file.specs.declared.kept.Pending.{Pending}
use Rattle.journal_file.specs.Values.{KeptValue}
use Rattle.outbox.specs.declared.reading.Reading.{Reading}
use Rattle.outbox.specs.FaceTime.{FaceMoment, growth, gone_on, last_moment, moment_at}
use Rattle.outbox.specs.Outbox.{OutboxValue}
use Rattle.session_memory.specs.Numbers.{has, no_numbers}
use Rattle.session_memory.proofs.NumberLemmas.{none-among}
use Rattle.serve_run.specs.Serve.{serve_turns, serving_from, setup_named}
use Rattle.ltp_session.specs.Engine.{starts}
use Rattle.peer_sessions.specs.Keys.{FaceKeys, with_marked}
use Rattle.peer_sessions.specs.Sessions.{starts_sessions}
use Rattle.peer_gateway.specs.Keys.{PeerSetup}
use Rattle.peer_gateway.specs.Gate.{PeerGate, PeerMoments, starts_peer_gate}
use Rattle.peer_gateway.specs.Steps.{PeerEvent, a_datagram, a_kept_piece, a_tick, does, peer_gate_after, peer_step, with_outboxes}
use Rattle.peer_gateway.specs.Laws.{put_at}
use Rattle.peer_half.specs.Half.{Came, half}
use Rattle.peer_half.specs.Journals.{marked_each, starts_journal}
use Rattle.peer_half.specs.Laws.{datagrams_at, tried_at, waiting_at}
use Rattle.peer_half.specs.Parts.{begin_of, is_added, next_resumed, reads, resumed, resumes, ticks, where_some}
use Rattle.peer_half.specs.Run.{halves}
use Rattle.peer_half.specs.Runs.{EventIn, Run, acts_of, after_events, after_halves, arrived_in, begins_at, event_at, events_in, events_of, first_gate, resumed_at, resumed_each, resumed_in, setup_of, stands_at}
use Rattle.peer_half.specs.Standing.{Standing, face_of}
use Rattle.peer_run_laws.specs.Faces.{AreAtOnce, GoesAtOnceInRuns, GoesOnceInOrder, cancels_at, config_of, moments_in, plan_of, put_first, put_over, sent_over}
use Rattle.peer_run_laws.proofs.BoxLemmas.{Box, fed-begins, starts_box}
use Rattle.peer_run_laws.proofs.FaceLemmas.{schedule-at, schedule-half, time-is-of-half}
use Rattle.peer_run_laws.proofs.WaitLemmas.{IsFree}
use Rattle.peer_run_laws.proofs.WalkLemmas.{events-append}
use Rattle.peer_serve_laws.specs.Sessions.{AreOf, party_with}
use Rattle.peer_serve_laws.specs.Steps.{AreOneMoment, IsGateOf, IsPlainSetup, SendsAlike, plain_setup}
use Rattle.peer_serve_laws.specs.Serves.{AreFree, ClocksAreOne, ComeSingly, EventIsFree, GoAlike, IsAsServe, ServesAlike, clock_over, plain_after, plain_step, wall_in}
use Rattle.peer_serve_laws.proofs.ServeLemmas.{gate_past, plain_in, plain_over, routed-is, sends-turns, shows-all, step_sent}
use Rattle.peer_serve_laws.proofs.StepLemmas.{steps-send-alike}

-- ---- an event

found-so : (s : PeerSetup) (h : Gate) (g : PeerGate) (octets : ℕ × ℕ) → IsGateOf s h g → IsGateOf s h (with_outboxes octets g)
found-so s h g octets of = record {
  old = record { sessions = of.old.sessions; pieces = of.old.pieces };
  new = record { sessions = of.new.sessions; pieces = of.new.pieces };
  counter = of.counter;
}

event-alike : (s : PeerSetup) (kind : PeerEvent) (event : EventIn) (g : PeerGate) (h : Gate) → IsPlainSetup s → AreOneMoment event.1.0 (event.1.0).wall → IsGateOf s h g
    → EventIsFree s kind event g h
    → SendsAlike s (does s kind event.1.0 (with_outboxes event.1.1 g)) (plain_step (plain_setup s) kind (event.1.0).wall h)
event-alike s (a_datagram face read) event g h plain one of free =
    steps-send-alike.arrival s face read event.1.0 (event.1.0).wall (with_outboxes event.1.1 g) h plain one (found-so s h g event.1.1 of) free
event-alike s a_tick event g h plain one of free =
    steps-send-alike.tick s event.1.0 (event.1.0).wall (with_outboxes event.1.1 g) h plain one (found-so s h g event.1.1 of) free
event-alike s (a_kept_piece face octets came) event g h plain one of free = absurd free

-- ---- some events, the newest first

-- all moments of each are one
abbrev AreOneEach : List EventIn → Type 0
AreOneEach events = AllByRecursion (λ (event : EventIn). AreOneMoment event.1.0 (event.1.0).wall) events

-- what the gate of `serve` sends with them at a face
abbrev plain_sent : Face → GateSetup → List EventIn → List (List ℕ)
plain_sent at s [] = []
plain_sent at s (event ∷ earlier) = plain_sent at s earlier ++ step_sent at (plain_step s event.0 (event.1.0).wall (plain_after s earlier))

record EventsAlike (s : PeerSetup) (start : PeerGate) (events : List EventIn) : Type 0 where
  gate : IsGateOf s (plain_after (plain_setup s) events) (peer_gate_after s start events)
  sent : (at : Face) → sent_over s at start events ≡ plain_sent at (plain_setup s) events

events-alike : (s : PeerSetup) (start : PeerGate) (events : List EventIn) → IsPlainSetup s → IsGateOf s (starts_gate (plain_setup s)) start → AreOneEach events → AreFree s start events
    → EventsAlike s start events
unfolding plain_after AreFree sent_over peer_gate_after peer_step
events-alike s start [] plain of one free = record { gate = of; sent = λ at. refl }
events-alike s start (event ∷ earlier) plain of (first, one) (now, free) =
    let before = events-alike s start earlier plain of one free in
    let step = event-alike s event.0 event (peer_gate_after s start earlier) (plain_after (plain_setup s) earlier) plain first before.gate now in
    let its : GateStep = plain_step (plain_setup s) event.0 (event.1.0).wall (plain_after (plain_setup s) earlier) in
    record {
      gate = step.gate;
      sent = λ at.
          ap (λ (ds : List (List ℕ)). ds ++ datagrams_at at (map routed_of (does s event.0 event.1.0 (with_outboxes event.1.1 (peer_gate_after s start earlier))).effects.out)) (before.sent at)
          ∙ ap (λ (ds : List (List ℕ)). plain_sent at (plain_setup s) earlier ++ ds)
          (ap (λ (out : List RoutedValue). datagrams_at at (map routed_of out)) step.out ∙ sym (routed-is at (map routed_of its.effects.out)));
    }

-- ---- events of pieces of earlier runs make nothing of it

abbrev IsKeptPiece : PeerEvent → Type 0
IsKeptPiece (a_datagram face read) = ⊥
IsKeptPiece a_tick = ⊥
IsKeptPiece (a_kept_piece face octets came) = Unit {0}

abbrev AreKeptPieces : List EventIn → Type 0
AreKeptPieces events = AllByRecursion (λ (event : EventIn). IsKeptPiece event.0) events

kept-both : (xs ys : List EventIn) → AreKeptPieces xs → AreKeptPieces ys → AreKeptPieces (xs ++ ys)
kept-both [] ys are be = be
kept-both (x ∷ xs) ys (first, are) be = (first, kept-both xs ys are be)

kept-where : (next : Option Pending) (events : Pending → List EventIn) → ((p : Pending) → AreKeptPieces (events p)) → AreKeptPieces (where_some next events [])
kept-where None events each = tt
kept-where (Some p) events each = each p

kept-if : (added : Bool) (more : List EventIn) → AreKeptPieces more → AreKeptPieces (if added then more else [])
kept-if true more are = are
kept-if false more are = tt

kept-resumed : (n : ℕ) (face : Face) (s : Standing) → AreKeptPieces (resumed_in n face s)
unfolding resumed_in
kept-resumed zero face s = tt
kept-resumed (suc n) face s =
    kept-where (next_resumed face s) (λ p. event_at (begin_of p) s ∷ (if is_added p s then resumed_in n face (resumed p s) else []))
    (λ p. let rest = kept-resumed n face (resumed p s) in (tt, kept-if (is_added p s) (resumed_in n face (resumed p s)) rest))

record MakesNothing (t : GateSetup) (events earlier : List EventIn) : Type 0 where
  gate : plain_after t (after_events events earlier) ≡ plain_after t earlier
  sent : (at : Face) → plain_sent at t (after_events events earlier) ≡ plain_sent at t earlier

kept-none : (t : GateSetup) (kind : PeerEvent) (now : ℕ) (h : Gate) → IsKeptPiece kind → ((plain_step t kind now h).gate ≡ h) × ((at : Face) → step_sent at (plain_step t kind now h) ≡ [])
kept-none t (a_datagram face read) now h is = absurd is
kept-none t a_tick now h is = absurd is
kept-none t (a_kept_piece face octets came) now h is = (refl, λ at. refl)

kept-makes : (t : GateSetup) (events earlier : List EventIn) → AreKeptPieces events → MakesNothing t events earlier
unfolding plain_after
kept-makes t [] earlier are = record { gate = refl; sent = λ at. refl }
kept-makes t (event ∷ events) earlier (is, are) =
    let rest = kept-makes t events (event ∷ earlier) are in
    let none = kept-none t event.0 (event.1.0).wall (plain_after t earlier) is in
    record {
      gate = rest.gate ∙ none.0;
      sent = λ at. rest.sent at ∙ (ap (λ (ds : List (List ℕ)). plain_sent at t earlier ++ ds) (none.1 at) ∙ append-nil (plain_sent at t earlier));
    }

-- ---- a half

record HalfMakes (t : GateSetup) (face : Face) (came : Came) (events earlier : List EventIn) : Type 0 where
  gate : plain_after t (after_events events earlier) ≡ gate_past t face (wall_in came) came.datagrams (plain_after t earlier)
  sent : (at : Face) → plain_sent at t (after_events events earlier) ≡ plain_sent at t earlier ++ plain_in at t face (wall_in came) came.datagrams (plain_after t earlier)

-- a tick, and perhaps a datagram, at this moment
heard-makes : (t : GateSetup) (face : Face) (came : Came) (moments : PeerMoments) (octets : ℕ × ℕ) (datagrams : List (List ℕ)) (s : Standing) (earlier : List EventIn)
    → moments.wall ≡ wall_in came → came.datagrams ≡ datagrams → length datagrams ≤ 1
    → AllByRecursion (λ (event : EventIn). (event.1.0).wall ≡ wall_in came) (arrived_in face datagrams s)
    → HalfMakes t face came ((a_tick, (moments, octets)) ∷ arrived_in face datagrams s) earlier
unfolding plain_after arrived_in
heard-makes t face came moments octets [] s earlier wall same few at_once = record {
  gate = ap (λ (now : ℕ). (ticks_gate t now (plain_after t earlier)).gate) wall
      ∙ ap (λ (ds : List (List ℕ)). gate_past t face (wall_in came) ds (plain_after t earlier)) (sym same);
  sent = λ at. ap (λ (now : ℕ). plain_sent at t earlier ++ step_sent at (ticks_gate t now (plain_after t earlier))) wall
      ∙ (ap (λ (ds : List (List ℕ)). plain_sent at t earlier ++ ds) (sym (append-nil (step_sent at (ticks_gate t (wall_in came) (plain_after t earlier)))))
      ∙ ap (λ (ds : List (List ℕ)). plain_sent at t earlier ++ plain_in at t face (wall_in came) ds (plain_after t earlier)) (sym same));
}
heard-makes t face came moments octets (d ∷ []) s earlier wall same few (at_once, rest) =
    let h : Gate = plain_after t earlier in record {
      gate = ap (λ (now : ℕ). (arrives_at t face (segment_of d) (s.moments).wall (ticks_gate t now h).gate).gate) wall
          ∙ (ap (λ (now : ℕ). (arrives_at t face (segment_of d) now (ticks_gate t (wall_in came) h).gate).gate) at_once
          ∙ ap (λ (ds : List (List ℕ)). gate_past t face (wall_in came) ds h) (sym same));
      sent = λ at. ap (λ (now : ℕ). (plain_sent at t earlier ++ step_sent at (ticks_gate t now h)) ++ step_sent at (arrives_at t face (segment_of d) (s.moments).wall (ticks_gate t now h).gate)) wall
          ∙ (ap (λ (now : ℕ). (plain_sent at t earlier ++ step_sent at (ticks_gate t (wall_in came) h)) ++ step_sent at (arrives_at t face (segment_of d) now (ticks_gate t (wall_in came) h).gate)) at_once
          ∙ (append_assoc (plain_sent at t earlier) (step_sent at (ticks_gate t (wall_in came) h)) (step_sent at (arrives_at t face (segment_of d) (wall_in came) (ticks_gate t (wall_in came) h).gate))
          ∙ ap (λ (ds : List (List ℕ)). plain_sent at t earlier ++ plain_in at t face (wall_in came) ds h) (sym same)));
    }
heard-makes t face came moments octets (d ∷ e ∷ ds) s earlier wall same few at_once = absurd (omega (arith, few))

all-parts : {X : Type 0} (P : X → Type 0) (xs ys : List X) → AllByRecursion P (xs ++ ys) → AllByRecursion P xs × AllByRecursion P ys
all-parts P [] ys all = (tt, all)
all-parts P (x ∷ xs) ys (here, all) = let rest = all-parts P xs ys all in ((here, rest.0), rest.1)

all-map : {X : Type 0} (P Q : X → Type 0) → ((x : X) → P x → Q x) → (xs : List X) → AllByRecursion P xs → AllByRecursion Q xs
all-map P Q gives [] all = tt
all-map P Q gives (x ∷ xs) (here, all) = (gives x here, all-map P Q gives xs all)

-- the wall clock of each event of a half is that of its reading
walls-in : (face : Face) (came : Came) (s : Standing) → AllByRecursion (λ (event : EventIn). (event.1.0).wall ≡ wall_in came) (events_in face came s)
walls-in face came s =
    all-map (λ (event : EventIn). event.1.0 ≡ moments_in came s) (λ (event : EventIn). (event.1.0).wall ≡ wall_in came)
    (λ event is. ap (λ (m : PeerMoments). m.wall) is) (events_in face came s) (time-is-of-half true face came s faces.Old).events

half-makes : (t : GateSetup) (face : Face) (came : Came) (s : Standing) (earlier : List EventIn) → length came.datagrams ≤ 1 → HalfMakes t face came (events_in face came s) earlier
half-makes t face came s earlier few =
    let r = reads came.reading s in
    let passing = event_at a_tick (resumes r) ∷ arrived_in face came.datagrams (ticks (resumes r)) in
    let walls = (all-parts (λ (event : EventIn). (event.1.0).wall ≡ wall_in came) (resumed_each r) passing (walls-in face came s)).1 in
    let before = after_events (resumed_each r) earlier in
    let none = kept-makes t (resumed_each r) earlier (kept-both (resumed_at faces.Old r) _ (kept-resumed _ faces.Old r) (kept-resumed _ faces.New _)) in
    let makes = heard-makes t face came (resumes r).moments _ came.datagrams (ticks (resumes r)) before walls.0 refl few walls.1 in
    record {
      gate = ap (plain_after t) (events-append (resumed_each r) passing earlier)
          ∙ (makes.gate ∙ ap (λ (h : Gate). gate_past t face (wall_in came) came.datagrams h) none.gate);
      sent = λ at. ap (plain_sent at t) (events-append (resumed_each r) passing earlier)
          ∙ (makes.sent at
          ∙ (ap (λ (ds : List (List ℕ)). ds ++ plain_in at t face (wall_in came) came.datagrams (plain_after t before)) (none.sent at)
          ∙ ap (λ (h : Gate). plain_sent at t earlier ++ plain_in at t face (wall_in came) came.datagrams h) none.gate));
    }

halves-make : (at : Face) (t : GateSetup) (board : Bool) (face : Face) (comes : List Came) (s : Standing) (earlier : List EventIn) → ComeSingly comes
    → plain_sent at t (after_halves board face comes s earlier) ≡ plain_sent at t earlier ++ plain_over at t face comes (plain_after t earlier)
unfolding after_halves
halves-make at t board face [] s earlier singly = sym (append-nil (plain_sent at t earlier))
halves-make at t board face (came ∷ more) s earlier (few, singly) =
    let events = events_in face came s in
    let now = after_events events earlier in
    let one = half-makes t face came s earlier few in
    let rest = halves-make at t board (other_of face) more (half board face came s).standing now singly in
    rest
    ∙ (ap (λ (ds : List (List ℕ)). ds ++ plain_over at t (other_of face) more (plain_after t now)) (one.sent at)
    ∙ (ap (λ (h : Gate). (plain_sent at t earlier ++ plain_in at t face (wall_in came) came.datagrams (plain_after t earlier)) ++ plain_over at t (other_of face) more h) one.gate
    ∙ append_assoc (plain_sent at t earlier) (plain_in at t face (wall_in came) came.datagrams (plain_after t earlier))
    (plain_over at t (other_of face) more (gate_past t face (wall_in came) came.datagrams (plain_after t earlier)))))

-- ---- the clocks are one

-- a face's time is that of the wall clock at the reading before
abbrev time_of : Option Reading → Option FaceMoment
time_of None = None
time_of (Some before) = Some (record { moment = before.wall; reading = before })

abbrev AlikeFrom : Option Reading → List Came → Type 0
AlikeFrom None comes = ClocksAreOne comes
AlikeFrom (Some before) comes = GoAlike before comes

alike-next : (last : Option Reading) (came : Came) (more : List Came) → AlikeFrom last (came ∷ more) → AlikeFrom (Some came.reading) more
alike-next None came more alike = alike
alike-next (Some before) came more alike = alike.3

-- no link closes, nothing waits, and time goes on with the clock
record Stands (s : Standing) (last : Option Reading) : Type 0 where
  free : (at : Face) → IsFree ((face_of at s).outbox).schedule
  none : (at : Face) → waiting_at at s ≡ []
  time : (at : Face) → (face_of at s).time ≡ time_of last

no-growth : (windows : List Window) (waiting : List (List ℕ)) (before now : Reading) → windows ≡ [] → waiting ≡ [] → growth waiting windows before now ≡ now.monotonic - before.monotonic
no-growth windows waiting before now no_windows none = rw (none, no_windows) refl

moment-is : (b : OutboxValue) (last : Option Reading) (time : Option FaceMoment) (came : Came) (more : List Came) → IsFree b.schedule → b.waiting ≡ [] → time ≡ time_of last
    → AlikeFrom last (came ∷ more) → moment_at b time came.reading ≡ wall_in came
moment-is b None time came more free none is alike = rw is refl
moment-is b (Some before) time came more free none is alike =
    ap (λ (t : Option FaceMoment). moment_at b t came.reading) is
    ∙ (ap (gone_on before.wall) (no-growth (b.schedule).windows b.waiting before came.reading free.windows none)
    ∙ goes before.wall ((came.reading).monotonic - before.monotonic) (wall_in came) alike.1 alike.2)
  where
    goes : (from time to : ℕ) → to ≡ from + time → to < 2 ^ 62 → gone_on from time ≡ to
    goes from time to is small = let least : min time (last_moment - from) ≡ time = min-eq_left (omega (arith, is, small)) in ap (λ k. from + k) least ∙ sym is

one-moment : (s : Standing) (last : Option Reading) (came : Came) (more : List Came) → Stands s last → AlikeFrom last (came ∷ more) → AreOneMoment (moments_in came s) (wall_in came)
one-moment s last came more stands alike = record { wall = refl; at = at_each } where
  at_each : (face : Face) → (moments_in came s).at face ≡ wall_in came
  at_each faces.Old = moment-is (s.faces.0).outbox last (s.faces.0).time came more (stands.free faces.Old) (stands.none faces.Old) (stands.time faces.Old) alike
  at_each faces.New = moment-is (s.faces.1).outbox last (s.faces.1).time came more (stands.free faces.New) (stands.none faces.New) (stands.time faces.New) alike

stands-half : (board : Bool) (face : Face) (came : Came) (more : List Came) (s : Standing) (last : Option Reading) → Stands s last → AlikeFrom last (came ∷ more)
    → ((at : Face) → waiting_at at (half board face came s).standing ≡ []) → Stands (half board face came s).standing (Some came.reading)
stands-half board face came more s last stands alike none = record {
  free = λ at. subst IsFree (sym (schedule-half board at face came s)) (stands.free at);
  none = none;
  time = λ at. (time-is-of-half board face came s at).time
      ∙ ap (λ (k : ℕ). Some (record { moment = k; reading = came.reading })) ((one-moment s last came more stands alike).at at);
}

all-after : (events earlier : List EventIn) → AreOneEach events → AreOneEach earlier → AreOneEach (after_events events earlier)
all-after [] earlier are be = be
all-after (event ∷ events) earlier (first, are) be = all-after events (event ∷ earlier) are (first, be)

half-one : (face : Face) (came : Came) (s : Standing) → AreOneMoment (moments_in came s) (wall_in came) → AreOneEach (events_in face came s)
half-one face came s one =
    all-map (λ (event : EventIn). event.1.0 ≡ moments_in came s) (λ (event : EventIn). AreOneMoment event.1.0 (event.1.0).wall)
    (λ event is. subst (λ (m : PeerMoments). AreOneMoment m m.wall) (sym is) (record { wall = refl; at = one.at }))
    (events_in face came s) (time-is-of-half true face came s faces.Old).events

halves-one : (board : Bool) (face : Face) (comes : List Came) (s : Standing) (last : Option Reading) (earlier : List EventIn) → Stands s last → AlikeFrom last comes
    → ((at : Face) → AreAtOnce at board face comes s) → AreOneEach earlier → AreOneEach (after_halves board face comes s earlier)
unfolding after_halves AreAtOnce
halves-one board face [] s last earlier stands alike at_once one = one
halves-one board face (came ∷ more) s last earlier stands alike at_once one =
    halves-one board (other_of face) more (half board face came s).standing (Some came.reading) (after_events (events_in face came s) earlier)
    (stands-half board face came more s last stands alike (λ at. (at_once at).0)) (alike-next last came more alike) (λ at. (at_once at).2)
    (all-after (events_in face came s) earlier (half-one face came s (one-moment s last came more stands alike)) one)

-- ---- the beginning of a run

no-cancels : (r : Run) → r.kept ≡ None → (at : Face) → cancels_at at r ≡ []
no-cancels r none faces.Old = ap (λ (kept : Option KeptValue). cancels_at faces.Old (record r { kept = kept })) none
no-cancels r none faces.New = ap (λ (kept : Option KeptValue). cancels_at faces.New (record r { kept = kept })) none

no-puts : (r : Run) → r.kept ≡ None → (at : Face) → put_first at r ≡ []
unfolding put_at puts
no-puts r none faces.Old = ap (λ (kept : Option KeptValue). put_first faces.Old (record r { kept = kept })) none
no-puts r none faces.New = ap (λ (kept : Option KeptValue). put_first faces.New (record r { kept = kept })) none

none-of : (xs ys : List (List ℕ)) → xs ++ ys ≡ [] → ys ≡ []
none-of [] ys is = is
none-of (x ∷ xs) ys is = absurd (cc (is))

-- nothing waits where nothing was sent yet
waits-none : GoesOnceInOrder → (r : Run) (at : Face) → r.kept ≡ None → waiting_at at (begins_at r) ≡ []
unfolding halves after_halves put_over
waits-none law r at none =
    let empty : Run = record r { comes = [] } in
    none-of (tried_at at (acts_of empty)) (waiting_at at (begins_at r))
    (law empty at ∙ (append-nil (put_first at empty) ∙ no-puts r none at))

time-begins : (r : Run) (at : Face) → (face_of at (begins_at r)).time ≡ None
time-begins r at = ap (λ (b : Box). b.1) (fed-begins r at).box_is ∙ by at where
  by : (at : Face) → (starts_box r at).1 ≡ None
  by faces.Old = refl
  by faces.New = refl

free-at : (r : Run) (at : Face) → (config_of r at).contacts ≡ [] → (config_of r at).rate ≡ None → IsFree ((face_of at (begins_at r)).outbox).schedule
free-at r at none unpaced = subst IsFree (sym (schedule-at r at)) (by at none unpaced) where
  by : (at : Face) → (config_of r at).contacts ≡ [] → (config_of r at).rate ≡ None → IsFree (plan_of r at)
  by faces.Old none unpaced = record { windows = rw none refl; rates = rw none refl; rate = unpaced }
  by faces.New none unpaced = record { windows = rw none refl; rates = rw none refl; rate = unpaced }

-- nothing waits at its end
ends-none : (board : Bool) (at face : Face) (comes : List Came) (s : Standing) → waiting_at at s ≡ [] → AreAtOnce at board face comes s → waiting_at at (halves board face comes s).standing ≡ []
unfolding halves AreAtOnce
ends-none board at face [] s none at_once = none
ends-none board at face (came ∷ more) s none (now, tried, rest) = ends-none board at (other_of face) more (half board face came s).standing now rest

sessions-of : (k : FaceKeys) (wall runs : ℕ) → AreOf (starts (party_with k runs)) (starts_sessions k wall [])
unfolding with_marked
sessions-of k wall runs = record {
  engine = refl;
  over = λ n few. none (has no_numbers n) (none-among n);
  set = length-uncovered 18446744073709551615;
  numbers = tt;
} where
  none : (b : Bool) → b ≡ false → (b || b || b) ≡ false
  none true is = absurd (cc (is))
  none false is = refl

gate-of : (s : PeerSetup) (wall : ℕ) → IsGateOf s (starts_gate (plain_setup s)) (starts_peer_gate s (wall, wall) ([], []))
gate-of s wall = record {
  old = record { sessions = sessions-of s.keys.0 wall 65536; pieces = refl };
  new = record { sessions = sessions-of s.keys.1 wall 65536; pieces = refl };
  counter = refl;
}

gate-begins : (r : Run) → r.kept ≡ None → IsGateOf (setup_of r) (starts_gate (plain_setup (setup_of r))) (first_gate r)
gate-begins r none =
    subst (λ (kept : Option KeptValue). IsGateOf (setup_of r) (starts_gate (plain_setup (setup_of r))) (starts_peer_gate (setup_of r) (r.wall, r.wall) (marked_each (starts_journal r.file r.wall kept))))
    (sym none) (gate-of (setup_of r) r.wall)

plain-setup : (r : Run) → IsAsServe r → IsPlainSetup (setup_of r)
plain-setup r like = record {
  settings = like.settings;
  old = record {
    alone = like.alone faces.Old;
    sessions = ap (λ (t : GateSetup). t.parties.0.sessions) like.setup;
    most = ap (λ (t : GateSetup). t.parties.0.most) like.setup;
  };
  new = record {
    alone = like.alone faces.New;
    sessions = ap (λ (t : GateSetup). t.parties.1.sessions) like.setup;
    most = ap (λ (t : GateSetup). t.parties.1.most) like.setup;
  };
}

-- ---- a run

pub serves-alike : GoesOnceInOrder → GoesAtOnceInRuns → ServesAlike
unfolding serve_turns plain_after
serves-alike once at_once r like whole at =
    let s : PeerSetup = setup_of r in
    let t : GateSetup = plain_setup s in
    let stands : Stands (begins_at r) None = record {
      free = λ f. free-at r f (like.contacts f) (like.rates f);
      none = λ f. waits-none once r f like.no_journal;
      time = λ f. time-begins r f;
    } in
    let goes : (f : Face) → AreAtOnce f r.board faces.Old r.comes (begins_at r) = λ f. at_once r f (like.contacts f) (like.rates f) in
    let ends : waiting_at at (stands_at r) ≡ [] = ends-none r.board at faces.Old r.comes (begins_at r) (stands.none at) (goes at) in
    let one : AreOneEach (events_of r) = halves-one r.board faces.Old r.comes (begins_at r) None [] stands like.one_clock goes tt in
    let alike = events-alike s (first_gate r) (events_of r) (plain-setup r like) (gate-begins r like.no_journal) one like.free in
    sym (append-nil (tried_at at (acts_of r)))
    ∙ (ap (λ (ds : List (List ℕ)). tried_at at (acts_of r) ++ ds) (sym ends)
    ∙ (once r at
    ∙ (like.put at
    ∙ (ap (λ (ds : List (List ℕ)). ds ++ sent_over s at (first_gate r) (events_of r)) (no-cancels r like.no_journal at)
    ∙ (alike.sent at
    ∙ (halves-make at t r.board faces.Old r.comes (begins_at r) [] like.singly
    ∙ (ap (λ (u : GateSetup). plain_over at u faces.Old r.comes (starts_gate u)) like.setup
    ∙ sym (sends-turns r.comes whole (serving_from (setup_named ((r.file).gateway).endpoint)) (clock_over r.wall r.comes) (shows-all r.wall r.comes) at))))))))
