-- What an event does to a session that is being sent: where it is open no longer, that is told.

use Rattle.std.proofs.Common.{◌≡◌, ℕ, Bool, true, false, List, [], ◌∷◌, length, map, Result, refl, sym, ◌∙◌, ap, subst}
use Rattle.std.specs.List.{AllByRecursion, list_any}
use Rattle.ltp_segment.specs.declared.fault.SegmentCause.{SegmentCause}
use Rattle.ltp_segment.specs.declared.session.Note.{Note}
use Rattle.ltp_segment.specs.Values.{SegmentValue}
use Rattle.ltp_engine.specs.Sessions.{is_open}
use Rattle.gate_cases.specs.declared.face.Face.{Face}
use Rattle.gate_cases.specs.declared.face.Face.TheVariants.{Old, New}
use Rattle.gateway_core.specs.Gate.{at_face}
use Rattle.peer_sessions.specs.Sessions.{Sessions, SessionsStep, evictions, hears, ticks}
use Rattle.peer_gateway.specs.Keys.{PeerSetup}
use Rattle.peer_gateway.specs.Gate.{PeerGate, PeerMoments, and_then, told_engine, told_green}
use Rattle.peer_gateway.specs.Steps.{PeerEvent, a_datagram, a_kept_piece, a_tick, arrives_peer, does, does_at, forgotten_told, hears_at, peer_gate_after, peer_step, ticks_face, ticks_peer, told_at, told_of, with_outboxes}
use Rattle.peer_events.specs.Laws.{is_end, is_end_at}
use Rattle.peer_half.specs.Runs.{EventIn}
use Rattle.peer_session_laws.specs.Events.{Beginning, gate_after, sessions_of, step_with}
use Rattle.peer_session_laws.specs.Own.{EndsAreTold, IsSomePiece}
use Rattle.peer_session_laws.proofs.AnyLemmas.{any-first, any-later, any-map}
use Rattle.peer_session_laws.proofs.GoLemmas.{GoOn, HasOctets, old-passes}
use Rattle.peer_session_laws.proofs.FaceLemmas.{with-outboxes}
use Rattle.peer_session_laws.proofs.PassLemmas.{goes-event, heard, said}
use Rattle.peer_session_laws.proofs.OutLemmas.{IsOutOf}
use Rattle.peer_session_laws.proofs.SenderLemmas.{not-both}
use Rattle.peer_session_laws.proofs.OpenLemmas.{Rests, rests-hears, rests-same, rests-ticks, tells_end}
use Rattle.peer_session_laws.proofs.NumberLemmas.{Begins, begins-all}

-- ---- what is told of a face's sessions

-- the notes of an engine are among it, at the face
notes-told : (at : Face) (n : ℕ) (step : SessionsStep) → tells_end n step.effects.notes ≡ true → list_any (is_end_at at n) (map (told_at at) (told_of step)) ≡ true
notes-told at n step is = by at where
  at_face_is : (face : Face) → ((note : Note) → is_end_at face n (told_at face (told_engine note)) ≡ is_end n note)
      → list_any (is_end_at face n) (map (told_at face) (told_of step)) ≡ true
  at_face_is face same =
      any-map (λ told. is_end_at face n (told_at face told)) (is_end_at face n) (told_at face) (λ told. refl) (told_of step)
      ∙ any-later (λ told. is_end_at face n (told_at face told)) (map told_engine (evictions step.gone)) _
      (any-later (λ told. is_end_at face n (told_at face told)) (forgotten_told step.forgotten) _
      (any-first (λ told. is_end_at face n (told_at face told)) (map told_engine step.effects.notes) (map told_green step.effects.greens)
      (any-map (is_end n) (λ told. is_end_at face n (told_at face told)) told_engine same step.effects.notes ∙ is)))

  by : (face : Face) → list_any (is_end_at face n) (map (told_at face) (told_of step)) ≡ true
  by Old = at_face_is Old (λ note. refl)
  by New = at_face_is New (λ note. refl)

-- ---- an event

-- What is told of an event, where notes of the face's engine tell of an end. And before blocks begin, no session
-- has begun.
record Heard (s : PeerSetup) (at : Face) (n : ℕ) (event : PeerEvent) (m : PeerMoments) (g : PeerGate) : Type 0 where
  told : List Note
  rests : Rests n (at_face g.faces at).sessions.engine (heard s at event m g).engine told
  tells : tells_end n told ≡ true → list_any (is_end_at at n) (does s event m g).effects.told ≡ true

-- nothing comes to the face
not-heard : (s : PeerSetup) (at : Face) (n : ℕ) (event : PeerEvent) (m : PeerMoments) (g : PeerGate) → heard s at event m g ≡ (at_face g.faces at).sessions
    → Heard s at n event m g
not-heard s at n event m g same = record {
  told = [];
  rests = rests-same n (at_face g.faces at).sessions.engine (heard s at event m g).engine [] (ap (λ (t : Sessions). t.engine.senders) same) (ap (λ (t : Sessions). t.engine.next) same);
  tells = λ is. absurd (cc is);
}

-- what its sessions tell comes first
arrives-tells : (s : PeerSetup) (at : Face) (n : ℕ) (read : Result SegmentValue (ℕ × SegmentCause)) (m : PeerMoments) (g : PeerGate)
    → tells_end n (hears_at s at g read (m.at at)).effects.notes ≡ true
    → list_any (is_end_at at n) (does s (a_datagram at read) m g).effects.told ≡ true
unfolding arrives_peer and_then
arrives-tells s at n read m g is =
    let step = hears_at s at g read (m.at at) in
    any-first (is_end_at at n) (map (told_at at) (told_of step)) _ (notes-told at n step is)

old-tick : (s : PeerSetup) (n : ℕ) (m : PeerMoments) (g : PeerGate) → tells_end n (ticks s.keys.0 g.faces.0.sessions (m.at Old)).effects.notes ≡ true
    → list_any (is_end_at Old n) (ticks_peer s m g).effects.told ≡ true
unfolding ticks_peer and_then
old-tick s n m g is =
    let step = ticks s.keys.0 g.faces.0.sessions (m.at Old) in
    any-first (is_end_at Old n) (ticks_face s m Old g).effects.told _
    (any-first (is_end_at Old n) (map (told_at Old) (told_of step)) _ (notes-told Old n step is))

new-tick : (s : PeerSetup) (n : ℕ) (m : PeerMoments) (g : PeerGate) → tells_end n (ticks s.keys.1 (ticks_face s m Old g).gate.faces.1.sessions (m.at New)).effects.notes ≡ true
    → list_any (is_end_at New n) (ticks_peer s m g).effects.told ≡ true
unfolding ticks_peer and_then
new-tick s n m g is =
    let first = ticks_face s m Old g in
    let step = ticks s.keys.1 first.gate.faces.1.sessions (m.at New) in
    any-later (is_end_at New n) first.effects.told _
    (any-first (is_end_at New n) (map (told_at New) (told_of step)) _ (notes-told New n step is))

-- blocks of the old face are nothing to the new one
new-waits : (s : PeerSetup) (m : PeerMoments) (g : PeerGate) → (ticks_face s m Old g).gate.faces.1.sessions ≡ g.faces.1.sessions
unfolding and_then
new-waits s m g =
    let told = (does_at s Old g (ticks s.keys.0 g.faces.0.sessions (m.at Old))).gate in
    (old-passes s m s.keys.1 (m.at New) (m.at Old) (length told.faces.0.gathering.waiting) told).same

heard-event : (s : PeerSetup) (at : Face) (n : ℕ) (event : PeerEvent) (m : PeerMoments) (g : PeerGate) → Heard s at n event m g
heard-event s Old n (a_datagram Old read) m g = record {
  told = (hears s.keys.0 g.faces.0.sessions read (m.at Old)).effects.notes;
  rests = rests-hears s.keys.0 g.faces.0.sessions read (m.at Old) n;
  tells = arrives-tells s Old n read m g;
}
heard-event s New n (a_datagram New read) m g = record {
  told = (hears s.keys.1 g.faces.1.sessions read (m.at New)).effects.notes;
  rests = rests-hears s.keys.1 g.faces.1.sessions read (m.at New) n;
  tells = arrives-tells s New n read m g;
}
heard-event s New n (a_datagram Old read) m g = not-heard s New n (a_datagram Old read) m g refl
heard-event s Old n (a_datagram New read) m g = not-heard s Old n (a_datagram New read) m g refl
heard-event s Old n a_tick m g = record {
  told = (ticks s.keys.0 g.faces.0.sessions (m.at Old)).effects.notes;
  rests = rests-ticks s.keys.0 g.faces.0.sessions (m.at Old) n;
  tells = old-tick s n m g;
}
heard-event s New n a_tick m g = record {
  told = (ticks s.keys.1 g.faces.1.sessions (m.at New)).effects.notes;
  rests = rests-ticks s.keys.1 g.faces.1.sessions (m.at New) n;
  tells = λ is. new-tick s n m g (subst (λ (t : Sessions). tells_end n (ticks s.keys.1 t (m.at New)).effects.notes ≡ true) (sym (new-waits s m g)) is);
}
heard-event s at n (a_kept_piece face octets came) m g = not-heard s at n (a_kept_piece face octets came) m g refl

-- ---- what an event does to session n of a face

pub record Does (b : Beginning) (at : Face) (n : ℕ) (event : EventIn) (earlier : List EventIn) : Type 0 where
  pub told : List Note
  pub middle : Sessions
  pub rests : Rests n (sessions_of b at earlier).engine middle.engine told
  pub begins : Begins at n (step_with b event earlier).effects.begun middle (sessions_of b at (event ∷ earlier))
  pub goes : GoOn (at_face b.setup.keys at) (event.1.0.at at) at (step_with b event earlier).effects.begun middle (sessions_of b at (event ∷ earlier))
  pub added : IsSomePiece event.0 → AllByRecursion HasOctets (step_with b event earlier).effects.added
  pub out : AllByRecursion (IsOutOf at (said b.setup at event.0 event.1.0 (with_outboxes event.1.1 (gate_after b earlier)))) (step_with b event earlier).effects.out
  pub tells : tells_end n told ≡ true → list_any (is_end_at at n) (step_with b event earlier).effects.told ≡ true

pub event-does : (b : Beginning) (at : Face) (n : ℕ) (event : EventIn) (earlier : List EventIn) → Does b at n event earlier
unfolding peer_gate_after peer_step
event-does b at n event earlier =
    let m = event.1.0 in
    let g = with_outboxes event.1.1 (gate_after b earlier) in
    let comes = heard-event b.setup at n event.0 m g in
    let goes = goes-event b.setup m at event.0 g in
    record {
      told = comes.told;
      middle = heard b.setup at event.0 m g;
      rests = subst (λ (t : Sessions). Rests n t.engine (heard b.setup at event.0 m g).engine comes.told) (with-outboxes at event.1.1 (gate_after b earlier)) comes.rests;
      begins = begins-all (at_face b.setup.keys at) (m.at at) at n (does b.setup event.0 m g).effects.begun (heard b.setup at event.0 m g) (at_face (does b.setup event.0 m g).gate.faces at).sessions goes.sessions;
      goes = goes.sessions;
      added = goes.added;
      out = goes.out;
      tells = comes.tells;
    }

pub ends-are-told : EndsAreTold
ends-are-told b at n event earlier was shut =
    let all = event-does b at n event earlier in
    all.tells (all.rests.tells was (by (is_open n all.middle.engine.senders) refl all.begins.stays))
  where
    middle : Sessions
    middle = (event-does b at n event earlier).middle

    by : (t : Bool) → is_open n middle.engine.senders ≡ t → (is_open n middle.engine.senders ≡ true → is_open n (sessions_of b at (event ∷ earlier)).engine.senders ≡ true)
        → is_open n middle.engine.senders ≡ false
    by true is stays = not-both (is_open n (sessions_of b at (event ∷ earlier)).engine.senders) (stays is) shut
    by false is stays = is
