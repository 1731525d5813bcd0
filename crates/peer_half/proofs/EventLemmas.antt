-- What the gate does in a half.

use Rattle.std.proofs.Common.{◌≡◌, ℕ, zero, suc, Bool, true, false, List, [], ◌∷◌, ◌++◌, length, map, Option, None, Some, if◌then◌else◌, refl, sym, ap, ◌∙◌}
use Rattle.std.specs.List.{AllByRecursion}
use Rattle.ltp_segment.specs.Reading.{segment_of}
use Rattle.gate_cases.specs.declared.face.Face.{Face}
use Rattle.gate_cases.specs.declared.face.Face.TheVariants as faces
use Rattle.gate_metrics.specs.declared.counters.Counted.TheVariants as things
use Rattle.journal_file.specs.declared.kept.Pending.{Pending}
use Rattle.outbox.specs.declared.reading.Reading.{Reading}
use Rattle.peer_gateway.specs.Gate.{PeerGate, PeerMoments}
use Rattle.peer_gateway.specs.Keys.{PeerSetup}
use Rattle.peer_gateway.specs.Steps.{PeerEvent, a_datagram, a_tick, peer_step}
use Rattle.peer_half.specs.Journals.{Journalled}
use Rattle.peer_half.specs.Standing.{Standing, counting}
use Rattle.peer_half.specs.Steps.{happened_in, happens_again, happens_with, outboxes_in, recorded_with}
use Rattle.peer_half.specs.Moments.{moments_at}
use Rattle.peer_half.specs.Parts as parts
use Rattle.peer_half.specs.Parts.{arrives_all, reads, resumes_within, tries}
use Rattle.peer_half.specs.Half.{Came, hears}
use Rattle.peer_half.specs.Laws.{AreOfHalf, EventsAtOnce, HearsAtOnce, IsKeptPiece, ReadsMoments, event_in, gate_past}
use Rattle.peer_half.proofs.StandingLemmas.{happens-rest, reads-rest}

abbrev Events : Type 0
Events = List (PeerEvent × (ℕ × ℕ))

-- ---- one after the other

past-append : (s : PeerSetup) (m : PeerMoments) (xs ys : Events) (g : PeerGate) → gate_past s m (xs ++ ys) g ≡ gate_past s m ys (gate_past s m xs g)
unfolding gate_past
past-append s m [] ys g = refl
past-append s m (x ∷ xs) ys g = past-append s m xs ys (peer_step s x.0 m x.1 g).gate

-- a run that stands so has gone on by these events
record Goes (s t : Standing) (events : Events) : Type 0 where
  setup : t.setup ≡ s.setup
  moments : t.moments ≡ s.moments
  gate : t.gate ≡ gate_past s.setup s.moments events s.gate

goes-none : (s : Standing) → Goes s s []
unfolding gate_past
goes-none s = record { setup = refl; moments = refl; gate = refl }

goes-then : (s t u : Standing) (xs ys : Events) → Goes s t xs → Goes t u ys → Goes s u (xs ++ ys)
goes-then s t u xs ys first more = record {
  setup = more.setup ∙ first.setup;
  moments = more.moments ∙ first.moments;
  gate = more.gate
      ∙ (ap (λ setup. gate_past setup t.moments ys t.gate) first.setup
      ∙ (ap (λ moments. gate_past s.setup moments ys t.gate) first.moments
      ∙ (ap (λ gate. gate_past s.setup s.moments ys gate) first.gate
      ∙ sym (past-append s.setup s.moments xs ys s.gate))));
}

goes-with : (event : PeerEvent) (journal : Option Journalled) (s : Standing) → Goes s (happens_with event journal s) ((event, outboxes_in s) ∷ [])
unfolding gate_past
goes-with event journal s = record {
  setup = ap (λ (t : Standing). t.setup) (happens-rest event journal s);
  moments = ap (λ (t : Standing). t.moments) (happens-rest event journal s);
  gate = ap (λ (t : Standing). t.gate) (happens-rest event journal s);
}

goes-again : (again : Option ℕ) (event : PeerEvent) (s : Standing) → Goes s (happens_again again event s) ((event, outboxes_in s) ∷ [])
goes-again again event s = goes-with event (recorded_with (happened_in again event s) s.journal) s

-- ---- pieces of earlier runs

abbrev GoesKept : Standing → Standing → Type 0
GoesKept s t = (events : Events) × (AllByRecursion IsKeptPiece events × Goes s t events)

all-append : (xs ys : Events) → AllByRecursion IsKeptPiece xs → AllByRecursion IsKeptPiece ys → AllByRecursion IsKeptPiece (xs ++ ys)
all-append [] ys first more = more
all-append (x ∷ xs) ys first more = (first.0, all-append xs ys first.1 more)

kept-none : (s : Standing) → GoesKept s s
kept-none s = ([], (tt, goes-none s))

kept-then : (s t u : Standing) → GoesKept s t → GoesKept t u → GoesKept s u
kept-then s t u (xs, (kept, first)) (ys, (too, more)) = (xs ++ ys, (all-append xs ys kept too, goes-then s t u xs ys first more))

kept-tries : (p : Pending) (s : Standing) → GoesKept s (tries p s)
unfolding tries
kept-tries p s =
    ((parts.begin_of p, outboxes_in s) ∷ [], (((p.face, (p.block, (p.came, refl))), tt), goes-again (Some p.id) (parts.begin_of p) s))

-- its line changes nothing of this
kept-resumed : (p : Pending) (s : Standing) → GoesKept s (tries p s) → GoesKept s (parts.resumed p s)
kept-resumed p s (events, (kept, goes)) = (events, (kept, record { setup = goes.setup; moments = goes.moments; gate = goes.gate }))

kept-where : (next : Option Pending) (does : Pending → Standing) (s : Standing) → ((p : Pending) → GoesKept s (does p)) → GoesKept s (parts.where_some next does s)
kept-where None does s later = kept-none s
kept-where (Some p) does s later = later p

kept-if : (added : Bool) (on off s : Standing) → GoesKept s on → GoesKept s off → GoesKept s (if added then on else off)
kept-if true on off s goes stops = goes
kept-if false on off s goes stops = stops

kept-within : (n : ℕ) (face : Face) (s : Standing) → GoesKept s (resumes_within n face s)
unfolding resumes_within
kept-within zero face s = kept-none s
kept-within (suc n) face s =
    kept-where (parts.next_resumed face s) (λ p. if parts.is_added p s then resumes_within n face (parts.resumed p s) else tries p s) s
    (λ p. kept-if (parts.is_added p s) (resumes_within n face (parts.resumed p s)) (tries p s) s
    (kept-then s (parts.resumed p s) (resumes_within n face (parts.resumed p s)) (kept-resumed p s (kept-tries p s)) (kept-within n face (parts.resumed p s)))
    (kept-tries p s))

kept-resumes : (s : Standing) → GoesKept s (parts.resumes s)
kept-resumes s =
    let old = parts.resumes_at faces.Old s in
    kept-then s old (parts.resumes_at faces.New old) (kept-within (parts.pending_in s.journal) faces.Old s) (kept-within (parts.pending_in old.journal) faces.New old)

-- ---- datagrams

abbrev arrival : Face → List ℕ → PeerEvent
arrival face datagram = a_datagram face (segment_of datagram)

abbrev GoesBy : Standing → Standing → List PeerEvent → Type 0
GoesBy s t wanted = (events : Events) × ((map event_in events ≡ wanted) × Goes s t events)

map-append-in : (xs ys : Events) → map event_in (xs ++ ys) ≡ map event_in xs ++ map event_in ys
map-append-in [] ys = refl
map-append-in (x ∷ xs) ys = ap (λ more. event_in x ∷ more) (map-append-in xs ys)

by-then : (s t u : Standing) (xs ys : List PeerEvent) → GoesBy s t xs → GoesBy t u ys → GoesBy s u (xs ++ ys)
by-then s t u xs ys (es, (are, first)) (fs, (too, more)) = (
  es ++ fs,
  (
    map-append-in es fs ∙ (ap (λ l. l ++ map event_in fs) are ∙ ap (λ l. xs ++ l) too),
    goes-then s t u es fs first more,
  ),
)

by-one : (event : PeerEvent) (s t : Standing) → Goes s t ((event, outboxes_in s) ∷ []) → GoesBy s t (event ∷ [])
by-one event s t goes = ((event, outboxes_in s) ∷ [], (refl, goes))

goes-arrives : (face : Face) (datagram : List ℕ) (s : Standing) → Goes s (parts.arrives face datagram s) ((arrival face datagram, outboxes_in s) ∷ [])
goes-arrives face datagram s =
    let goes = goes-again None (arrival face datagram) (counting face (things.Received (length datagram)) s) in
    record { setup = goes.setup; moments = goes.moments; gate = goes.gate }

by-arrives : (face : Face) (datagrams : List (List ℕ)) (s : Standing) → GoesBy s (arrives_all face datagrams s) (map (arrival face) datagrams)
unfolding arrives_all
by-arrives face [] s = ([], (refl, goes-none s))
by-arrives face (datagram ∷ more) s =
    let t = parts.arrives face datagram s in
    by-then s t (arrives_all face more t) (arrival face datagram ∷ []) (map (arrival face) more)
    (by-one (arrival face datagram) s t (goes-arrives face datagram s)) (by-arrives face more t)

by-polled : (face : Face) (failed : Bool) (s t : Standing) (wanted : List PeerEvent) → GoesBy s t wanted → GoesBy s (parts.ends_polling face failed t) wanted
by-polled face true s t wanted (events, (are, goes)) = (events, (are, record { setup = goes.setup; moments = goes.moments; gate = goes.gate }))
by-polled face false s t wanted by = by

by-dropped : (face : Face) (datagrams : ℕ) (s t : Standing) (wanted : List PeerEvent) → GoesBy s t wanted → GoesBy s (parts.drops_foreign face datagrams t) wanted
by-dropped face datagrams s t wanted (events, (are, goes)) = (events, (are, record { setup = goes.setup; moments = goes.moments; gate = goes.gate }))

-- ---- a half

abbrev heard : Face → Came → List PeerEvent
heard face came = a_tick ∷ map (arrival face) came.datagrams

at-once : (face : Face) (came : Came) (s r t u : Standing) → r.setup ≡ s.setup → r.moments ≡ moments_at came.reading s.faces → r.gate ≡ s.gate
    → GoesKept r t → GoesBy t u (heard face came)
    → (again : Events) × ((rest : Events) × HearsAtOnce face came s u again rest)
at-once face came s r t u setup moments gate (xs, (kept, first)) (ys, (are, more)) =
    let all = goes-then r t u xs ys first more in (
      xs,
      (
        ys,
        record {
          setup = all.setup ∙ setup;
          moments = all.moments ∙ moments;
          kept = kept;
          comes = are;
          gate = all.gate
              ∙ (ap (λ setup. gate_past setup r.moments (xs ++ ys) r.gate) setup
              ∙ (ap (λ moments. gate_past s.setup moments (xs ++ ys) r.gate) moments
              ∙ ap (λ gate. gate_past s.setup (moments_at came.reading s.faces) (xs ++ ys) gate) gate));
        },
      ),
    )

pub events-at-once : EventsAtOnce
events-at-once face came s =
    let r = reads came.reading s in
    let t = parts.resumes r in
    let u = parts.ticks t in
    at-once face came s r t (hears face came s)
    (ap (λ (x : Standing). x.setup) (reads-rest came.reading s)) (ap (λ (x : Standing). x.moments) (reads-rest came.reading s)) (ap (λ (x : Standing). x.gate) (reads-rest came.reading s))
    (kept-resumes r)
    (by-dropped face came.foreign t (parts.ends_polling face came.poll_failed (arrives_all face came.datagrams u)) (heard face came)
    (by-polled face came.poll_failed t (arrives_all face came.datagrams u) (heard face came)
    (by-then t u (arrives_all face came.datagrams u) (a_tick ∷ []) (map (arrival face) came.datagrams)
    (by-one a_tick t u (goes-again None a_tick t)) (by-arrives face came.datagrams u))))

-- ---- the moments of a half

of-half : (now : Reading) (s t : Standing) (face : Face) → t.faces ≡ (parts.reading_clocks now s).faces → t.moments ≡ (parts.reading_clocks now s).moments → AreOfHalf now s t face
of-half now s t faces.Old are moments = record {
  wall = ap (λ (m : PeerMoments). m.wall) moments;
  at = rw (are, moments) refl;
  leaves = ap (λ (m : PeerMoments). m.leaves faces.Old) moments;
}
of-half now s t faces.New are moments = record {
  wall = ap (λ (m : PeerMoments). m.wall) moments;
  at = rw (are, moments) refl;
  leaves = ap (λ (m : PeerMoments). m.leaves faces.New) moments;
}

pub reads-moments : ReadsMoments
reads-moments now s face =
    of-half now s (reads now s) face (ap (λ (t : Standing). t.faces) (reads-rest now s)) (ap (λ (t : Standing). t.moments) (reads-rest now s))
