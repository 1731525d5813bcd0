-- What each event keeps, a half keeps, and a run.

use Rattle.std.proofs.Common.{◌≡◌, ℕ, zero, suc, Bool, true, false, List, [], ◌∷◌, ◌++◌, length, Option, None, Some, if◌then◌else◌, refl, ap, sym, subst, ◌∙◌}
use Rattle.edge_traits.specs.Faults.{fails_next, after_next}
use Rattle.ltp_segment.specs.Reading.{segment_of}
use Rattle.gate_cases.specs.declared.face.Face.{Face}
use Rattle.gate_cases.specs.declared.face.Face.TheVariants as faces
use Rattle.gate_cases.specs.Faces.{other_of}
use Rattle.gate_log.specs.declared.event.LinkEvent.{LinkEvent}
use Rattle.gate_metrics.specs.declared.counters.Counted.TheVariants as things
use Rattle.journal_file.specs.declared.kept.Pending.{Pending}
use Rattle.outbox.specs.declared.reading.Reading.{Reading}
use Rattle.outbox.specs.Outbox.{next_of}
use Rattle.gate_face.specs.Halves.{full_event, lost_event, taking}
use Rattle.peer_gateway.specs.Gate.{PeerGate, PeerMoments}
use Rattle.peer_gateway.specs.Keys.{PeerSetup}
use Rattle.peer_gateway.specs.Steps.{PeerEvent, a_datagram, a_tick}
use Rattle.peer_events.specs.declared.own.OwnBlock.{OwnBlock}
use Rattle.peer_half.specs.Journals.{Journalled, is_large}
use Rattle.peer_half.specs.Standing.{Standing, counting, doing_at, face_of, saying_of, wall_of}
use Rattle.peer_half.specs.Steps.{happened_in, happens_again, happens_with, recorded_with}
use Rattle.peer_half.specs.Acts.{Acted, after_acts, stands}
use Rattle.peer_half.specs.Parts as parts
use Rattle.peer_half.specs.Parts.{arrives_all, resumes_within, sends_within, tries}
use Rattle.peer_half.specs.Half.{Came, answers, half, hears}
use Rattle.peer_half.specs.Run.{halves}
use Rattle.peer_half.specs.Runs.{EventIn, after_events, after_halves, arrived_in, event_at, events_in, resumed_at, resumed_each, resumed_in}
use Rattle.peer_half.proofs.StandingLemmas.{after_event, happens-rest, quiet_of, reads-rest}

-- ---- an event

-- It holds of how a run stands and of the events till then, the newest first; whatever was said and counted; and each
-- event keeps it.
pub record Keeps (Holds : Standing → List EventIn → Type 0) : Type 0 where
  pub quiet : (s t : Standing) (earlier : List EventIn) → quiet_of s ≡ quiet_of t → Holds s earlier → Holds t earlier
  pub event : (event : PeerEvent) (journal : Option Journalled) (s : Standing) (earlier : List EventIn)
      → Holds s earlier → Holds (after_event event journal s) (event_at event s ∷ earlier)

keeps-with : (Holds : Standing → List EventIn → Type 0) → Keeps Holds → (event : PeerEvent) (journal : Option Journalled) (s : Standing) (earlier : List EventIn)
    → Holds s earlier → Holds (happens_with event journal s) (event_at event s ∷ earlier)
keeps-with Holds keeps event journal s earlier so =
    keeps.quiet (after_event event journal s) (happens_with event journal s) (event_at event s ∷ earlier)
    (sym (ap (λ (t : Standing). quiet_of t) (happens-rest event journal s)))
    (keeps.event event journal s earlier so)

keeps-again : (Holds : Standing → List EventIn → Type 0) → Keeps Holds → (again : Option ℕ) (event : PeerEvent) (s : Standing) (earlier : List EventIn)
    → Holds s earlier → Holds (happens_again again event s) (event_at event s ∷ earlier)
keeps-again Holds keeps again event s earlier so =
    keeps-with Holds keeps event (recorded_with (happened_in again event s) s.journal) s earlier so

-- ---- pieces of earlier runs

keeps-tries : (Holds : Standing → List EventIn → Type 0) → Keeps Holds → (p : Pending) (s : Standing) (earlier : List EventIn)
    → Holds s earlier → Holds (tries p s) (event_at (parts.begin_of p) s ∷ earlier)
unfolding tries
keeps-tries Holds keeps p s earlier so = keeps-again Holds keeps (Some p.id) (parts.begin_of p) s earlier so

keeps-resumed : (Holds : Standing → List EventIn → Type 0) → Keeps Holds → (p : Pending) (s : Standing) (earlier : List EventIn)
    → Holds s earlier → Holds (parts.resumed p s) (event_at (parts.begin_of p) s ∷ earlier)
keeps-resumed Holds keeps p s earlier so =
    keeps.quiet (tries p s) (parts.resumed p s) (event_at (parts.begin_of p) s ∷ earlier) refl (keeps-tries Holds keeps p s earlier so)

keeps-where : (Holds : Standing → List EventIn → Type 0) (next : Option Pending) (does : Pending → Standing) (begins : Pending → List EventIn) (s : Standing) (earlier : List EventIn)
    → Holds s earlier → ((p : Pending) → Holds (does p) (after_events (begins p) earlier))
    → Holds (parts.where_some next does s) (after_events (parts.where_some next begins []) earlier)
keeps-where Holds None does begins s earlier so later = so
keeps-where Holds (Some p) does begins s earlier so later = later p

keeps-if : (Holds : Standing → List EventIn → Type 0) (added : Bool) (on off : Standing) (more earlier : List EventIn)
    → Holds on (after_events more earlier) → Holds off earlier → Holds (if added then on else off) (after_events (if added then more else []) earlier)
keeps-if Holds true on off more earlier goes stops = goes
keeps-if Holds false on off more earlier goes stops = stops

keeps-within : (Holds : Standing → List EventIn → Type 0) → Keeps Holds → (n : ℕ) (face : Face) (s : Standing) (earlier : List EventIn)
    → Holds s earlier → Holds (resumes_within n face s) (after_events (resumed_in n face s) earlier)
unfolding resumes_within resumed_in
keeps-within Holds keeps zero face s earlier so = so
keeps-within Holds keeps (suc n) face s earlier so =
    keeps-where Holds (parts.next_resumed face s) (λ p. if parts.is_added p s then resumes_within n face (parts.resumed p s) else tries p s)
    (λ p. event_at (parts.begin_of p) s ∷ (if parts.is_added p s then resumed_in n face (parts.resumed p s) else [])) s earlier so
    (λ p.
    let rest = keeps-within Holds keeps n face (parts.resumed p s) (event_at (parts.begin_of p) s ∷ earlier) (keeps-resumed Holds keeps p s earlier so) in
    keeps-if Holds (parts.is_added p s) (resumes_within n face (parts.resumed p s)) (tries p s) (resumed_in n face (parts.resumed p s))
    (event_at (parts.begin_of p) s ∷ earlier) rest (keeps-tries Holds keeps p s earlier so))

-- ---- a half, until something is made

pub events-append : (xs ys earlier : List EventIn) → after_events (xs ++ ys) earlier ≡ after_events ys (after_events xs earlier)
events-append [] ys earlier = refl
events-append (x ∷ xs) ys earlier = events-append xs ys (x ∷ earlier)

pub keeps-each : (Holds : Standing → List EventIn → Type 0) → Keeps Holds → (s : Standing) (earlier : List EventIn)
    → Holds s earlier → Holds (parts.resumes s) (after_events (resumed_each s) earlier)
keeps-each Holds keeps s earlier so =
    let old = parts.resumes_at faces.Old s in
    subst (λ (events : List EventIn). Holds (parts.resumes s) events) (sym (events-append (resumed_at faces.Old s) (resumed_at faces.New old) earlier))
    (keeps-within Holds keeps (parts.pending_in old.journal) faces.New old (after_events (resumed_at faces.Old s) earlier)
    (keeps-within Holds keeps (parts.pending_in s.journal) faces.Old s earlier so))

keeps-arrives : (Holds : Standing → List EventIn → Type 0) → Keeps Holds → (face : Face) (datagrams : List (List ℕ)) (s : Standing) (earlier : List EventIn)
    → Holds s earlier → Holds (arrives_all face datagrams s) (after_events (arrived_in face datagrams s) earlier)
unfolding arrives_all arrived_in
keeps-arrives Holds keeps face [] s earlier so = so
keeps-arrives Holds keeps face (datagram ∷ more) s earlier so =
    let counted = counting face (things.Received (length datagram)) s in
    keeps-arrives Holds keeps face more (parts.arrives face datagram s) (event_at (a_datagram face (segment_of datagram)) s ∷ earlier)
    (keeps-again Holds keeps None (a_datagram face (segment_of datagram)) counted earlier (keeps.quiet s counted earlier refl so))

keeps-polled : (Holds : Standing → List EventIn → Type 0) → Keeps Holds → (face : Face) (failed : Bool) (s : Standing) (earlier : List EventIn)
    → Holds s earlier → Holds (parts.ends_polling face failed s) earlier
keeps-polled Holds keeps face true s earlier so = keeps.quiet s (parts.ends_polling face true s) earlier refl so
keeps-polled Holds keeps face false s earlier so = so

-- where it holds once the clocks are read
pub keeps-hears : (Holds : Standing → List EventIn → Type 0) → Keeps Holds → (face : Face) (came : Came) (s : Standing) (earlier : List EventIn)
    → Holds (parts.reading_clocks came.reading s) earlier → Holds (hears face came s) (after_events (events_in face came s) earlier)
keeps-hears Holds keeps face came s earlier so =
    let r = parts.reads came.reading s in
    let t = parts.resumes r in
    let passing = event_at a_tick t ∷ arrived_in face came.datagrams (parts.ticks t) in
    let read = keeps.quiet (parts.reading_clocks came.reading s) r earlier (sym (reads-rest came.reading s)) so in
    let each = keeps-each Holds keeps r earlier read in
    let ticked = keeps-again Holds keeps None a_tick t (after_events (resumed_each r) earlier) each in
    let arrived = keeps-arrives Holds keeps face came.datagrams (parts.ticks t) (event_at a_tick t ∷ after_events (resumed_each r) earlier) ticked in
    let polled = parts.ends_polling face came.poll_failed (arrives_all face came.datagrams (parts.ticks t)) in
    subst (λ (events : List EventIn). Holds (hears face came s) events) (sym (events-append (resumed_each r) passing earlier))
    (keeps.quiet polled (parts.drops_foreign face came.foreign polled) (after_events passing (after_events (resumed_each r) earlier)) refl
    (keeps-polled Holds keeps face came.poll_failed (arrives_all face came.datagrams (parts.ticks t)) (after_events passing (after_events (resumed_each r) earlier)) arrived))

-- ---- a half, and a run

-- it also holds once the clocks are read, and once what is to be made was made
pub record KeepsHalves (Holds : Standing → List EventIn → Type 0) : Type 0 where
  pub events : Keeps Holds
  pub reads : (now : Reading) (s : Standing) (earlier : List EventIn) → Holds s earlier → Holds (parts.reading_clocks now s) earlier
  pub answers : (board : Bool) (came : Came) (s : Standing) (earlier : List EventIn) → Holds s earlier → Holds (answers board came s).standing earlier

pub keeps-half : (Holds : Standing → List EventIn → Type 0) → KeepsHalves Holds → (board : Bool) (face : Face) (came : Came) (s : Standing) (earlier : List EventIn)
    → Holds s earlier → Holds (half board face came s).standing (after_events (events_in face came s) earlier)
unfolding half
keeps-half Holds keeps board face came s earlier so =
    keeps.answers board came (hears face came s) (after_events (events_in face came s) earlier)
    (keeps-hears Holds keeps.events face came s earlier (keeps.reads came.reading s earlier so))

pub keeps-halves : (Holds : Standing → List EventIn → Type 0) → KeepsHalves Holds → (board : Bool) (face : Face) (comes : List Came) (s : Standing) (earlier : List EventIn)
    → Holds s earlier → Holds (halves board face comes s).standing (after_halves board face comes s earlier)
unfolding halves after_halves
keeps-halves Holds keeps board face [] s earlier so = so
keeps-halves Holds keeps board face (came ∷ more) s earlier so =
    keeps-halves Holds keeps board (other_of face) more (half board face came s).standing (after_events (events_in face came s) earlier)
    (keeps-half Holds keeps board face came s earlier so)

-- ---- what belongs to the gate: nothing that is made touches it

pub record Core : Type 0 where
  pub setup : PeerSetup
  pub moments : PeerMoments
  pub gate : PeerGate
  pub own : List OwnBlock

abbrev pub core : Standing → Core
core s = record { setup = s.setup; moments = s.moments; gate = s.gate; own = s.own }

core-of : (face : Face) (what : Option LinkEvent) (s : Standing) → core (saying_of face what s) ≡ core s
core-of face None s = refl
core-of face (Some what) s = refl

core-goes : (face : Face) (fails : Bool) (datagram : List ℕ) (s : Standing) → core (parts.goes face fails datagram (doing_at face taking s)) ≡ core s
core-goes face true datagram s = refl
core-goes face false datagram s = refl

core-next : (face : Face) (fails : Bool) (next : Option (List ℕ)) (does : List ℕ → Acted) (s : Standing)
    → ((datagram : List ℕ) → core (does datagram).standing ≡ core s)
    → core (parts.where_some next (λ datagram. after_acts (parts.tried face fails datagram ∷ []) (does datagram)) (stands s)).standing ≡ core s
core-next face fails None does s later = refl
core-next face fails (Some datagram) does s later = later datagram

core-sends : (n : ℕ) (face : Face) (failing : List Bool) (s : Standing) → core (parts.sends_within n face failing s).standing ≡ core s
unfolding sends_within
core-sends zero face failing s = refl
core-sends (suc n) face failing s =
    core-next face (fails_next failing) (next_of (face_of face s).outbox)
    (λ datagram. parts.sends_within n face (after_next failing) (parts.goes face (fails_next failing) datagram (doing_at face taking s))) s
    (λ datagram. core-sends n face (after_next failing) (parts.goes face (fails_next failing) datagram (doing_at face taking s))
    ∙ core-goes face (fails_next failing) datagram s)

core-ends : (s : Standing) → core (parts.ends_sending s) ≡ core s
core-ends s =
    let a = saying_of faces.Old (full_event (face_of faces.Old s)) s in
    let b = parts.troubled faces.Old s in
    let c = saying_of faces.New (full_event (face_of faces.New b)) b in
    core-of faces.New (lost_event (face_of faces.New b)) c ∙ (core-of faces.New (full_event (face_of faces.New b)) b
    ∙ (core-of faces.Old (lost_event (face_of faces.Old s)) a ∙ core-of faces.Old (full_event (face_of faces.Old s)) s))

core-if : (due fails : Bool) (s : Standing) → core (parts.shows_if due fails s).standing ≡ core s
core-if false fails s = refl
core-if true fails s = refl

core-shows : (board fails : Bool) (s : Standing) → core (parts.shows board fails s).standing ≡ core s
core-shows true fails s = core-if (parts.is_due s.shown (wall_of s)) fails s
core-shows false fails s = refl

core-installs : (large : Bool) (s : Standing) → core (if large then parts.makes_anew s else stands s).standing ≡ core s
core-installs true s = refl
core-installs false s = refl

pub core-answers : (board : Bool) (came : Came) (s : Standing) → core (answers board came s).standing ≡ core s
core-answers board came s =
    let c = (parts.commits s).standing in
    let old = parts.sends faces.Old came.old_failing c in
    let new = parts.sends faces.New came.new_failing old.standing in
    let w = parts.ends_sending new.standing in
    core-shows board came.show_fails (parts.installs w).standing ∙ (core-installs (is_large w.journal) w ∙ (core-ends new.standing
    ∙ (core-sends (length ((face_of faces.New old.standing).outbox).waiting) faces.New came.new_failing old.standing
    ∙ core-sends (length ((face_of faces.Old c).outbox).waiting) faces.Old came.old_failing c)))
