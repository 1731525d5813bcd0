-- A tick at a face's moment at which one came before does nothing at the face.

use Rattle.std.proofs.Common.{◌≡◌, ℕ, zero, suc, ◌+◌, ◌-◌, ◌≤◌, min, ◌==◌, Bool, true, false, if◌then◌else◌, List, [], ◌∷◌, ◌++◌, map, length, ◌⊎◌, inl, inr, Option, None, Some, refl, ap, ◌∙◌, sym, subst, arith}
use Rattle.std.specs.List.{filter}
use Rattle.std.proofs.lemmas.List.{map-append}
use Rattle.std.proofs.lemmas.List.Elements.{filter-append}
use Rattle.ltp_session.specs.Engine.{EngineStep}
use Rattle.gate_cases.specs.declared.face.Face.{Face}
use Rattle.gate_cases.specs.declared.face.Face.TheVariants as faces
use Rattle.gate_cases.specs.Faces.{other_of}
use Rattle.gate_config.specs.declared.file.FaceConfig.{FaceConfig}
use Rattle.gateway_core.specs.Effects.{routed_of}
use Rattle.gateway_core.specs.Gate.{at_face}
use Rattle.outbox.specs.declared.reading.Reading.{Reading}
use Rattle.outbox.specs.FaceTime.{FaceMoment, gone_on, growth, last_moment, moment_at}
use Rattle.outbox.specs.Outbox.{OutboxValue}
use Rattle.piece_gathering.specs.Gathered.{ready}
use Rattle.peer_sessions.specs.Keys.{FaceKeys}
use Rattle.peer_sessions.specs.Sessions.{SessionsStep, block_begins, ticks}
use Rattle.face_room.specs.Queues.{puts}
use Rattle.peer_gateway.specs.Keys.{PeerSetup}
use Rattle.peer_gateway.specs.Gate.{AddedAt, BegunAt, FaceTold, PeerEffects, PeerFace, PeerGate, PeerMoments, PeerStep, Told, and_then, is_at, no_effects, stays_so, with_more}
use Rattle.peer_gateway.specs.Going.{block_of, due, gathers, go, go_on, is_free, next_count, told_if}
use Rattle.peer_gateway.specs.Steps.{PeerEvent, a_datagram, a_kept_piece, a_tick, does_at, peer_step, ticks_face, ticks_peer, told_at, told_of, with_outboxes}
use Rattle.peer_gateway.specs.Laws.{added_at, begun_at}
use Rattle.peer_half.specs.Journals.{Journalled}
use Rattle.peer_half.specs.Setup.{IsFace, keys_in, new_reserved, old_reserved}
use Rattle.peer_half.specs.Standing.{Standing, face_of}
use Rattle.peer_half.specs.Starts.{starts_at}
use Rattle.peer_half.specs.Steps.{outboxes_in, step_of}
use Rattle.peer_half.specs.Parts as parts
use Rattle.peer_half.specs.Parts.{reading_clocks, reads, resumes}
use Rattle.peer_half.specs.Half.{Came, answers, half, hears}
use Rattle.peer_half.specs.Run.{halves}
use Rattle.peer_half.specs.Runs.{EventIn, Run, after_events, arrived_in, begins_at, event_at, events_in, first_gate, resumed_each, setup_of, stands_at}
use Rattle.peer_half.specs.Laws.{datagrams_at}
use Rattle.peer_half.proofs.StandingLemmas.{after_event, reads-rest}
use Rattle.peer_run_laws.specs.Faces.{moments_in}
use Rattle.peer_run_laws.specs.Ticks.{DoesNothingAt, IsAsBefore, IsQuietAt, NoneWaitsLateInRuns, RunnableWaits, TicksOnce, TimersWait, before_tick, told_of_face}
use Rattle.peer_run_laws.proofs.WalkLemmas.{Core, Keeps, core-answers, events-append, keeps-each, keeps-hears}
use Rattle.peer_run_laws.proofs.BoxLemmas.{Box, fed-begins, starts_box}
use Rattle.peer_run_laws.proofs.OrderLemmas.{at-both, at-other}
use Rattle.peer_run_laws.proofs.FaceLemmas.{time-is-of-half}
use Rattle.peer_run_laws.proofs.AheadLemmas.{are-still}
use Rattle.peer_run_laws.proofs.RestLemmas.{Cited, IsRested, IsSorted, RestedAt, SortedAt, going-stays, nothing-due, other-does, other-due, rested-event, rested-found, rested-tick, since-later, sorted-event}

-- ---- quiet steps

quiet-none : (at : Face) → IsQuietAt at no_effects
quiet-none at = record { sends = refl; tells = refl; adds = refl; begins = refl }

quiet-more : (at : Face) (a b : PeerEffects) → IsQuietAt at a → IsQuietAt at b → IsQuietAt at (with_more a b)
quiet-more at a b first more =
    let here = λ (t : AddedAt). is_at at t.face in
    let piece = λ (t : AddedAt). t.piece in
    record {
      sends = at-both at a.out b.out ∙ (ap (λ ds. ds ++ datagrams_at at (map routed_of b.out)) first.sends ∙ more.sends);
      tells = filter-append (λ (t : FaceTold). is_at at t.face) a.told b.told ∙ (ap (λ ts. ts ++ told_of_face at b.told) first.tells ∙ more.tells);
      adds = ap (map piece) (filter-append here a.added b.added)
          ∙ (map-append piece (filter here a.added) (filter here b.added) ∙ (ap (λ ps. ps ++ added_at at b.added) first.adds ∙ more.adds));
      begins = filter-append (λ (t : BegunAt). is_at at t.face) a.begun b.begun ∙ (ap (λ ts. ts ++ begun_at at b.begun) first.begins ∙ more.begins);
    }

-- ---- what is done at the other face

told-other : (at : Face) (told : List Told) → told_of_face at (map (told_at (other_of at)) told) ≡ []
told-other faces.Old [] = refl
told-other faces.New [] = refl
told-other faces.Old (t ∷ told) = told-other faces.Old told
told-other faces.New (t ∷ told) = told-other faces.New told

does-other : (s : PeerSetup) (at : Face) (step : SessionsStep) (g : PeerGate) → IsQuietAt at (does_at s (other_of at) g step).effects
does-other s at step g = record { sends = at-other at (step.effects).out; tells = told-other at (told_of step); adds = refl; begins = refl }

began-other : (at : Face) (tells : Bool) (pieces octets session : ℕ) → told_of_face at (told_if tells (other_of at) pieces octets session) ≡ []
began-other at false pieces octets session = refl
began-other faces.Old true pieces octets session = refl
began-other faces.New true pieces octets session = refl

abbrev begun_by : PeerSetup → PeerMoments → Face → ℕ → PeerGate → EngineStep
begun_by s m face until g =
    block_begins (at_face s.keys face) ((at_face g.faces face).sessions).engine (block_of s face m until (at_face g.faces face)) (m.at face)

go-other : (s : PeerSetup) (m : PeerMoments) (at : Face) (until : ℕ) (g : PeerGate) → IsQuietAt at (go s (other_of at) m until g).effects
unfolding go
go-other s m faces.Old until g = record {
  sends = at-other faces.Old (begun_by s m faces.New until g).effects.out;
  tells = began-other faces.Old (gathers s.keys.1) _ _ _;
  adds = refl;
  begins = refl;
}
go-other s m faces.New until g = record {
  sends = at-other faces.New (begun_by s m faces.Old until g).effects.out;
  tells = began-other faces.New (gathers s.keys.0) _ _ _;
  adds = refl;
  begins = refl;
}

on-other : (s : PeerSetup) (m : PeerMoments) (at : Face) (until n : ℕ) (g : PeerGate) → IsQuietAt at (go_on s (other_of at) m until n g).effects
unfolding go_on and_then
on-other s m at until zero g = quiet-none at
on-other s m at until (suc n) g =
    by (next_count (at_face s.keys face) until (at_face g.faces face) == 0)
    (quiet-more at (go s face m until g).effects (go_on s face m until n (go s face m until g).gate).effects (go-other s m at until g) (on-other s m at until n (go s face m until g).gate))
  where
    face : Face
    face = other_of at

    by : (t : Bool) → IsQuietAt at (with_more (go s (other_of at) m until g).effects (go_on s (other_of at) m until n (go s (other_of at) m until g).gate).effects)
        → IsQuietAt at (if t then stays_so g else and_then (go s (other_of at) m until g) (go_on s (other_of at) m until n)).effects
    by true rest = quiet-none at
    by false rest = rest

ticks-other : (s : PeerSetup) (m : PeerMoments) (at : Face) (g : PeerGate) → IsQuietAt at (ticks_face s m (other_of at) g).effects
unfolding and_then
ticks-other s m at g =
    let face = other_of at in
    let step = ticks (at_face s.keys face) (at_face g.faces face).sessions (m.at face) in
    let h = (does_at s face g step).gate in
    quiet-more at (does_at s face g step).effects (due s m face h).effects (does-other s at step g)
    (on-other s m at (m.at face) (length ((at_face h.faces face).gathering).waiting) h)

-- ---- a tick that is early

none-goes : (s : PeerSetup) (face : Face) (m : PeerMoments) (until n : ℕ) (g : PeerGate) → next_count (at_face s.keys face) until (at_face g.faces face) ≡ 0
    → go_on s face m until n g ≡ stays_so g
unfolding go_on
none-goes s face m until zero g none = refl
none-goes s face m until (suc n) g none = rw none refl

next-none : (k : FaceKeys) (now : ℕ) (f : PeerFace) → (is_free k f ≡ true → ready f.gathering now ≡ 0) → next_count k now f ≡ 0
next-none k now f settled = by (is_free k f) settled
  where
    by : (free : Bool) → (free ≡ true → ready f.gathering now ≡ 0) → (if free then ready f.gathering now else 0) ≡ 0
    by true so = so refl
    by false so = refl

-- its sessions do nothing
does-none : (s : PeerSetup) (at : Face) (g : PeerGate) (step : SessionsStep) → step.gone ≡ [] → step.forgotten ≡ None → (step.effects).out ≡ [] → (step.effects).notes ≡ [] → (step.effects).greens ≡ []
    → (does_at s at g step).effects ≡ no_effects
unfolding puts
does-none s at g step gone forgotten out notes greens = rw (gone, forgotten, out, notes, greens) refl

abbrev ticked_by : PeerSetup → PeerMoments → Face → PeerGate → SessionsStep
ticked_by s m at g = ticks (at_face s.keys at) (at_face g.faces at).sessions (m.at at)

free-still : (k : FaceKeys) (now : ℕ) (f : PeerFace) → IsRested k now f
    → next_count k now (record f { sessions = (ticks k f.sessions now).sessions }) ≡ 0
free-still k now f so =
    let calm = so.calm in
    let still = are-still k f.sessions now ((f.sessions).engine).next calm.ahead calm.unstale in
    let same : is_free k (record f { sessions = (ticks k f.sessions now).sessions }) ≡ is_free k f = rw (still.senders, still.next) refl in
    next-none k now (record f { sessions = (ticks k f.sessions now).sessions }) (λ free. so.settled (sym same ∙ free))

settled-still : (s : PeerSetup) (m : PeerMoments) (at : Face) (g : PeerGate) → RestedAt s m at g
    → next_count (at_face s.keys at) (m.at at) (at_face (does_at s at g (ticked_by s m at g)).gate.faces at) ≡ 0
settled-still s m faces.Old g so = free-still s.keys.0 (m.at faces.Old) g.faces.0 so
settled-still s m faces.New g so = free-still s.keys.1 (m.at faces.New) g.faces.1 so

still-face : (s : PeerSetup) (m : PeerMoments) (at : Face) (g : PeerGate) → RestedAt s m at g → (ticks_face s m at g).effects ≡ no_effects
unfolding and_then
still-face s m at g so =
    let k = at_face s.keys at in
    let f = at_face g.faces at in
    let calm = so.calm in
    let still = are-still k f.sessions (m.at at) ((f.sessions).engine).next calm.ahead calm.unstale in
    let step = ticked_by s m at g in
    let h = (does_at s at g step).gate in
    ap (λ (e : PeerEffects). with_more e (due s m at h).effects) (does-none s at g step still.gone still.forgotten still.out still.notes still.greens)
    ∙ ap (λ (x : PeerStep). with_more no_effects x.effects) (none-goes s at m (m.at at) (length ((at_face h.faces at).gathering).waiting) h (settled-still s m at g so))

quiet-tick : (s : PeerSetup) (m : PeerMoments) (at : Face) (g : PeerGate) → RestedAt s m at g → IsQuietAt at (ticks_peer s m g).effects
unfolding ticks_peer and_then
quiet-tick s m faces.Old g so =
    let first = ticks_face s m faces.Old g in
    quiet-more faces.Old first.effects (ticks_face s m faces.New first.gate).effects
    (subst (λ (e : PeerEffects). IsQuietAt faces.Old e) (sym (still-face s m faces.Old g so)) (quiet-none faces.Old))
    (ticks-other s m faces.Old first.gate)
quiet-tick s m faces.New g so =
    let first = ticks_face s m faces.Old g in
    let step = ticked_by s m faces.Old g in
    let after = other-due s m faces.New (m.at faces.Old) (does_at s faces.Old g step).gate (other-does s m faces.New step g so) in
    quiet-more faces.New first.effects (ticks_face s m faces.New first.gate).effects (ticks-other s m faces.New g)
    (subst (λ (e : PeerEffects). IsQuietAt faces.New e) (sym (still-face s m faces.New first.gate after)) (quiet-none faces.New))

-- ---- what it leaves

as-so : (f : PeerFace) → IsAsBefore f f
as-so f = record { senders = refl; receivers = refl; next = refl; pieces = refl }

as-then : (f g h : PeerFace) → IsAsBefore f g → IsAsBefore g h → IsAsBefore f h
as-then f g h first more = record {
  senders = more.senders ∙ first.senders;
  receivers = more.receivers ∙ first.receivers;
  next = more.next ∙ first.next;
  pieces = more.pieces ∙ first.pieces;
}

-- its sessions and pieces are those of this face
abbrev AsAt : Face → PeerFace → PeerGate → Type 0
AsAt at f g = IsAsBefore f (at_face g.faces at)

as-other : (s : PeerSetup) (m : PeerMoments) (at : Face) (f : PeerFace) (g : PeerGate) → AsAt at f g → AsAt at f (ticks_face s m (other_of at) g).gate
unfolding and_then go
as-other s m at f g so =
    let face = other_of at in
    let until = m.at face in
    let h = (does_at s face g (ticked_by s m face g)).gate in
    going-stays s m (AsAt at f) face until (λ (x : PeerGate) (is : AsAt at f x). goes at x is) (length ((at_face h.faces face).gathering).waiting) h (does at so)
  where
    does : (at : Face) → AsAt at f g → AsAt at f (does_at s (other_of at) g (ticked_by s m (other_of at) g)).gate
    does faces.Old so = so
    does faces.New so = so

    goes : (at : Face) (x : PeerGate) → AsAt at f x → AsAt at f (go s (other_of at) m (m.at (other_of at)) x).gate
    goes faces.Old x is = is
    goes faces.New x is = is

as-done : (k : FaceKeys) (now : ℕ) (f : PeerFace) (queued : ℕ) → IsRested k now f → IsAsBefore f (record f { sessions = (ticks k f.sessions now).sessions; queued = queued })
as-done k now f queued so =
    let calm = so.calm in
    let still = are-still k f.sessions now ((f.sessions).engine).next calm.ahead calm.unstale in
    record { senders = still.senders; receivers = still.receivers; next = still.next; pieces = refl }

as-does : (s : PeerSetup) (m : PeerMoments) (at : Face) (g : PeerGate) → RestedAt s m at g → AsAt at (at_face g.faces at) (does_at s at g (ticked_by s m at g)).gate
as-does s m faces.Old g so =
    as-done s.keys.0 (m.at faces.Old) g.faces.0 _ so
as-does s m faces.New g so =
    as-done s.keys.1 (m.at faces.New) g.faces.1 _ so

as-face : (s : PeerSetup) (m : PeerMoments) (at : Face) (g : PeerGate) → RestedAt s m at g → AsAt at (at_face g.faces at) (ticks_face s m at g).gate
unfolding and_then
as-face s m at g so =
    let h = (does_at s at g (ticked_by s m at g)).gate in
    subst (λ (x : PeerStep). AsAt at (at_face g.faces at) x.gate)
    (sym (none-goes s at m (m.at at) (length ((at_face h.faces at).gathering).waiting) h (settled-still s m at g so))) (as-does s m at g so)

as-tick : (s : PeerSetup) (m : PeerMoments) (at : Face) (g : PeerGate) → RestedAt s m at g → AsAt at (at_face g.faces at) (ticks_peer s m g).gate
unfolding ticks_peer and_then
as-tick s m faces.Old g so = as-other s m faces.Old g.faces.0 (ticks_face s m faces.Old g).gate (as-face s m faces.Old g so)
as-tick s m faces.New g so =
    let first = (ticks_face s m faces.Old g).gate in
    let step = ticked_by s m faces.Old g in
    let after = other-due s m faces.New (m.at faces.Old) (does_at s faces.Old g step).gate (other-does s m faces.New step g so) in
    as-then g.faces.1 first.faces.1 (ticks_face s m faces.New first).gate.faces.1
    (as-other s m faces.New g.faces.1 g (as-so g.faces.1)) (as-face s m faces.New first after)

as-found : (at : Face) (octets : ℕ × ℕ) (g : PeerGate) (f : PeerFace) → IsAsBefore (at_face (with_outboxes octets g).faces at) f → IsAsBefore (at_face g.faces at) f
as-found faces.Old octets g f so = record { senders = so.senders; receivers = so.receivers; next = so.next; pieces = so.pieces }
as-found faces.New octets g f so = record { senders = so.senders; receivers = so.receivers; next = so.next; pieces = so.pieces }

nothing-done : (s : PeerSetup) (m : PeerMoments) (at : Face) (octets : ℕ × ℕ) (g : PeerGate) → RestedAt s m at g → DoesNothingAt at g (peer_step s a_tick m octets g)
unfolding peer_step
nothing-done s m at octets g so =
    let found = with_outboxes octets g in
    let rested = rested-found s m at octets g so in
    record {
      quiet = quiet-tick s m at found rested;
      stays = as-found at octets g (at_face (ticks_peer s m found).gate.faces at) (as-tick s m at found rested);
    }

-- ---- with the events of a half

abbrev IsTick : PeerEvent → Type 0
IsTick (a_datagram face read) = ⊥
IsTick a_tick = Unit {0}
IsTick (a_kept_piece face octets came) = ⊥

abbrev HasTick : List EventIn → Type 0
HasTick [] = ⊥
HasTick (event ∷ earlier) = IsTick event.0 ⊎ HasTick earlier

has-after : (events earlier : List EventIn) → HasTick earlier → HasTick (after_events events earlier)
has-after [] earlier has = has
has-after (event ∷ events) earlier has = has-after events (event ∷ earlier) (inr has)

has-tick : (face : Face) (came : Came) (s : Standing) → HasTick (after_events (events_in face came s) [])
has-tick face came s =
    let r = reads came.reading s in
    let tick : EventIn = event_at a_tick (resumes r) in
    let arrived = arrived_in face came.datagrams (parts.ticks (resumes r)) in
    subst HasTick (sym (events-append (resumed_each r) (tick ∷ arrived) []))
    (has-after arrived (tick ∷ after_events (resumed_each r) []) (inl tt))

-- the step of an event, at these moments
step-as : (setup : PeerSetup) (m : PeerMoments) (event : PeerEvent) (s : Standing) → s.setup ≡ setup → s.moments ≡ m
    → step_of event s ≡ peer_step setup event m (outboxes_in s) s.gate
step-as setup m event s setup_is moments_is =
    ap (λ (x : PeerSetup). peer_step x event s.moments (outboxes_in s) s.gate) setup_is
    ∙ ap (λ (x : PeerMoments). peer_step setup event x (outboxes_in s) s.gate) moments_is

-- a face's pieces are sorted, and once a tick came it is at rest
record IsResting (setup : PeerSetup) (at : Face) (m : PeerMoments) (s : Standing) (events : List EventIn) : Type 0 where
  setup_is : s.setup ≡ setup
  moments_is : s.moments ≡ m
  sorted : SortedAt setup m at s.gate
  rested : HasTick events → RestedAt setup m at s.gate

resting-event : Cited → (setup : PeerSetup) (at : Face) (m : PeerMoments) → TimersWait (at_face setup.keys at) → (event : PeerEvent) (journal : Option Journalled) (s : Standing) (earlier : List EventIn)
    → IsResting setup at m s earlier → IsResting setup at m (after_event event journal s) (event_at event s ∷ earlier)
resting-event laws setup at m wait event journal s earlier so = record {
  setup_is = so.setup_is;
  moments_is = so.moments_is;
  sorted = subst (λ (x : PeerStep). SortedAt setup m at x.gate) (sym same) (sorted-event setup m at event (outboxes_in s) s.gate so.sorted);
  rested = λ has. subst (λ (x : PeerStep). RestedAt setup m at x.gate) (sym same) (by event has);
} where
  same : step_of event s ≡ peer_step setup event m (outboxes_in s) s.gate
  same = step-as setup m event s so.setup_is so.moments_is

  by : (event : PeerEvent) → IsTick event ⊎ HasTick earlier → RestedAt setup m at (peer_step setup event m (outboxes_in s) s.gate).gate
  by a_tick has = rested-tick laws setup m at (outboxes_in s) s.gate wait so.sorted
  by (a_datagram face read) (inl never) = absurd never
  by (a_datagram face read) (inr has) = rested-event laws setup m at (a_datagram face read) (outboxes_in s) s.gate wait (so.rested has)
  by (a_kept_piece face octets came) (inl never) = absurd never
  by (a_kept_piece face octets came) (inr has) = rested-event laws setup m at (a_kept_piece face octets came) (outboxes_in s) s.gate wait (so.rested has)

resting-keeps : Cited → (setup : PeerSetup) (at : Face) (m : PeerMoments) → TimersWait (at_face setup.keys at) → Keeps (IsResting setup at m)
resting-keeps laws setup at m wait = record {
  quiet = λ s t earlier same so. record {
    setup_is = ap (λ (x : Standing). x.setup) (sym same) ∙ so.setup_is;
    moments_is = ap (λ (x : Standing). x.moments) (sym same) ∙ so.moments_is;
    sorted = subst (λ (g : PeerGate). SortedAt setup m at g) (ap (λ (x : Standing). x.gate) same) so.sorted;
    rested = λ has. subst (λ (g : PeerGate). RestedAt setup m at g) (ap (λ (x : Standing). x.gate) same) (so.rested has);
  };
  event = resting-event laws setup at m wait;
}

-- ---- a run

-- a face is at rest at its moment, where it has one
abbrev AtTime : FaceKeys → Option FaceMoment → PeerFace → Type 0
AtTime k None f = IsSorted k.wait_ms 0 f
AtTime k (Some t) f = IsRested k t.moment f

record IsAtRest (setup : PeerSetup) (at : Face) (s : Standing) : Type 0 where
  setup_is : s.setup ≡ setup
  rest : AtTime (at_face setup.keys at) (face_of at s).time (at_face (s.gate).faces at)

-- a moment never falls
further : (moment time : ℕ) → moment ≤ moment + time
further moment time = omega arith

sorted-read : (k : FaceKeys) (b : OutboxValue) (time : Option FaceMoment) (now : Reading) (f : PeerFace) → AtTime k time f → IsSorted k.wait_ms (moment_at b time now) f
sorted-read k b None now f so = record { since = since-later 0 0 now.wall (f.gathering).waiting (omega arith) so.since; wait_is = so.wait_is }
sorted-read k b (Some t) now f so =
    let sorted = (so.calm).sorted in
    let grown = growth b.waiting (b.schedule).windows t.reading now in
    record { since = since-later 0 t.moment (gone_on t.moment grown) (f.gathering).waiting (further t.moment (min grown (last_moment - t.moment))) sorted.since; wait_is = sorted.wait_is }

sorted-in : (setup : PeerSetup) (at : Face) (came : Came) (s : Standing) → IsAtRest setup at s → SortedAt setup (moments_in came s) at s.gate
sorted-in setup faces.Old came s so = sorted-read setup.keys.0 (s.faces.0).outbox (s.faces.0).time came.reading (s.gate).faces.0 so.rest
sorted-in setup faces.New came s so = sorted-read setup.keys.1 (s.faces.1).outbox (s.faces.1).time came.reading (s.gate).faces.1 so.rest

rest-half : Cited → (setup : PeerSetup) (at : Face) → TimersWait (at_face setup.keys at) → (board : Bool) (face : Face) (came : Came) (s : Standing)
    → IsAtRest setup at s → IsAtRest setup at (half board face came s).standing
unfolding half
rest-half laws setup at wait board face came s so =
    let m = moments_in came s in
    let h = hears face came s in
    let k = at_face setup.keys at in
    let heard = keeps-hears (IsResting setup at m) (resting-keeps laws setup at m wait) face came s [] (record {
      setup_is = so.setup_is;
      moments_is = refl;
      sorted = sorted-in setup at came s so;
      rested = λ never. absurd never;
    }) in
    let core_is = core-answers board came h in
    let rested = heard.rested (has-tick face came s) in
    record {
      setup_is = ap (λ (c : Core). c.setup) core_is ∙ heard.setup_is;
      rest = subst (λ (t : Option FaceMoment). AtTime k t (at_face (answers board came h).standing.gate.faces at)) (sym (time-is-of-half board face came s at).time)
          (subst (λ (g : PeerGate). IsRested k (m.at at) (at_face g.faces at)) (sym (ap (λ (c : Core). c.gate) core_is)) rested);
    }

rest-halves : Cited → (setup : PeerSetup) (at : Face) → TimersWait (at_face setup.keys at) → (board : Bool) (face : Face) (comes : List Came) (s : Standing)
    → IsAtRest setup at s → IsAtRest setup at (halves board face comes s).standing
unfolding halves
rest-halves laws setup at wait board face [] s so = so
rest-halves laws setup at wait board face (came ∷ more) s so =
    rest-halves laws setup at wait board (other_of face) more (half board face came s).standing (rest-half laws setup at wait board face came s so)

rest-begins : (r : Run) (at : Face) → IsAtRest (setup_of r) at (begins_at r)
unfolding starts_at
rest-begins r at = record { setup_is = refl; rest = subst (λ (t : Option FaceMoment). AtTime (at_face (setup_of r).keys at) t (at_face (first_gate r).faces at)) (sym none) (by at) }
  where
    none : (face_of at (begins_at r)).time ≡ None
    none = ap (λ (b : Box). b.1) (fed-begins r at).box_is ∙ at_first at
      where
        at_first : (at : Face) → (starts_box r at).1 ≡ None
        at_first faces.Old = refl
        at_first faces.New = refl

    by : (at : Face) → IsSorted (at_face (setup_of r).keys at).wait_ms 0 (at_face (first_gate r).faces at)
    by faces.Old = record { since = omega arith; wait_is = refl }
    by faces.New = record { since = omega arith; wait_is = refl }

rest-run : Cited → (r : Run) (at : Face) → TimersWait (at_face (setup_of r).keys at) → IsAtRest (setup_of r) at (stands_at r)
rest-run laws r at wait = rest-halves laws (setup_of r) at wait r.board faces.Old r.comes (begins_at r) (rest-begins r at)

pub none-waits-late-in-runs : Cited → NoneWaitsLateInRuns
none-waits-late-in-runs laws r at now wait is free =
    let k = at_face (setup_of r).keys at in
    let f = at_face ((stands_at r).gate).faces at in
    nothing-due laws.late k now.moment f (subst (λ (t : Option FaceMoment). AtTime k t f) is (rest-run laws r at wait).rest) free

-- ---- the tick of the next half

nothing-next : (setup : PeerSetup) (at : Face) (m : PeerMoments) (s : Standing) (events : List EventIn) → IsResting setup at m s events → HasTick events
    → DoesNothingAt at s.gate (step_of a_tick s)
nothing-next setup at m s events so has =
    subst (λ (x : PeerStep). DoesNothingAt at s.gate x) (sym (step-as setup m a_tick s so.setup_is so.moments_is))
    (nothing-done setup m at (outboxes_in s) s.gate (so.rested has))

pub ticks-once : Cited → TicksOnce
ticks-once laws r at before came wait is same =
    let s = stands_at r in
    let setup = setup_of r in
    let m = moments_in came s in
    let k = at_face setup.keys at in
    let f = at_face (s.gate).faces at in
    let end = rest-run laws r at wait in
    let held : IsRested k before.moment f = subst (λ (t : Option FaceMoment). AtTime k t f) is end.rest in
    let rested : RestedAt setup m at s.gate = subst (λ (n : ℕ). IsRested k n f) (sym same) held in
    let ticked : List EventIn = event_at a_tick s ∷ [] in
    let read : IsResting setup at m (reads came.reading s) ticked =
    (resting-keeps laws setup at m wait).quiet (reading_clocks came.reading s) (reads came.reading s) ticked (sym (reads-rest came.reading s)) (record {
      setup_is = end.setup_is;
      moments_is = refl;
      sorted = (rested.calm).sorted;
      rested = λ has. rested;
    }) in
    let again = resumed_each (reads came.reading s) in
    nothing-next setup at m (before_tick came r) (after_events again ticked)
    (keeps-each (IsResting setup at m) (resting-keeps laws setup at m wait) (reads came.reading s) ticked read)
    (has-after again ticked (inl tt))

-- ---- a runnable file

face-waits : (c : FaceConfig) (reserved : Option ℕ) (wall : ℕ) → IsFace c → 1 ≤ c.remember_ms → TimersWait (keys_in c reserved wall)
face-waits c reserved wall is remembers =
    let least = is.timeout_least in
    let most = is.cap_least in
    record { sessions = (least, omega (arith, least, most)); memory = remembers; pieces = is.aggregate_ms_least }

pub runnable-waits : RunnableWaits
runnable-waits r faces.Old runnable remembers = face-waits (r.file).old (old_reserved r.kept) r.wall runnable.old remembers
runnable-waits r faces.New runnable remembers = face-waits (r.file).new (new_reserved r.kept) r.wall runnable.new remembers
