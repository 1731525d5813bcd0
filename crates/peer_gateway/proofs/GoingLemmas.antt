-- What waits once what is to go went.

use Rattle.std.proofs.Common.{◌≡◌, ◌≢◌, ℕ, zero, suc, ◌-◌, ◌<◌, ◌≤◌, ◌==◌, Bool, true, false, ◌||◌, if◌then◌else◌, List, [], ◌∷◌, length, drop, refl, sym, subst, arith}
use Rattle.std.proofs.lemmas.Bool.{eqb-true, eqb-false, lt-leb}
use Rattle.std.proofs.lemmas.List.{length-drop}
use Rattle.piece_gathering.specs.declared.piece.Piece.{Piece}
use Rattle.piece_gathering.specs.Gathered.{GatheringValue, front_in, is_complete, is_late, ready}
use Rattle.piece_gathering.proofs.FrontLemmas.{is-front}
use Rattle.gate_cases.specs.declared.face.Face.{Face}
use Rattle.gate_cases.specs.declared.face.Face.TheVariants as faces
use Rattle.gateway_core.specs.Gate.{at_face}
use Rattle.peer_sessions.specs.Keys.{FaceKeys}
use Rattle.peer_sessions.specs.Sessions.{ticks}
use Rattle.peer_gateway.specs.Keys.{PeerSetup}
use Rattle.peer_gateway.specs.Gate.{PeerMoments, PeerFace, PeerGate, stays_so, and_then, in_turn}
use Rattle.peer_gateway.specs.Going.{is_free, next_count, no_time, go, go_on, go_all, waits_too, adds}
use Rattle.peer_gateway.specs.Steps.{does_at, passes, due_if, ticks_face, ticks_peer}
use Rattle.peer_gateway.specs.Laws.{NothingGoes, CompleteGoes, CompleteAtOnce, ReadyGoes, waiting_at}

-- ---- how many go

pub ready-few : (g : GatheringValue) (now : ℕ) → ready g now ≤ length g.waiting
unfolding ready
ready-few g now = by (is_complete g || is_late g.wait_ms now g.waiting)
  where
    by : (t : Bool) → (if t then (front_in g).count else 0) ≤ length g.waiting
    by true = (is-front g.wanted g.waiting).within
    by false = omega arith

-- where pieces go next, a session is free, and they are those that are ready
pub record GoNext (k : FaceKeys) (until : ℕ) (f : PeerFace) : Type 0 where
  pub free : is_free k f ≡ true
  pub some : 0 < ready f.gathering until

pub go-next : (k : FaceKeys) (until : ℕ) (f : PeerFace) → next_count k until f ≢ 0 → GoNext k until f
go-next k until f some = by (is_free k f) (ready f.gathering until) refl refl some
  where
    by : (t : Bool) (n : ℕ) → is_free k f ≡ t → ready f.gathering until ≡ n → (if t then n else 0) ≢ 0 → GoNext k until f
    by true zero free is none = absurd (none refl)
    by true (suc n) free is none = record { free = free; some = omega (arith, is) }
    by false n free is none = absurd (none refl)

none-next : (k : FaceKeys) (until : ℕ) (f : PeerFace) → next_count k until f ≡ 0 → is_free k f ≡ true → ready f.gathering until ≡ 0
none-next k until f none free = by (is_free k f) free none
  where
    by : (t : Bool) → t ≡ true → (if t then ready f.gathering until else 0) ≡ 0 → ready f.gathering until ≡ 0
    by true free none = none
    by false free none = absurd (cc)

-- what goes waits no more
waiting-gone : (s : PeerSetup) (face : Face) (m : PeerMoments) (until : ℕ) (g : PeerGate)
    → waiting_at face (go s face m until g).gate ≡ drop (ready (at_face g.faces face).gathering until) (waiting_at face g)
unfolding go
waiting-gone s faces.Old m until g = refl
waiting-gone s faces.New m until g = refl

-- ---- all go that can

go-on-none : (s : PeerSetup) (face : Face) (m : PeerMoments) (until n : ℕ) (g : PeerGate) → length (waiting_at face g) ≤ n
    → NothingGoes s face until (go_on s face m until n g).gate
unfolding go_on and_then
go-on-none s face m until zero g few = λ free. omega (arith, few, ready-few (at_face g.faces face).gathering until)
go-on-none s face m until (suc n) g few =
    by (next_count (at_face s.keys face) until (at_face g.faces face) == 0) refl (go-on-none s face m until n (go s face m until g).gate)
  where
    fewer : next_count (at_face s.keys face) until (at_face g.faces face) ≢ 0 → length (waiting_at face (go s face m until g).gate) ≤ n
    fewer some =
        let count = ready (at_face g.faces face).gathering until in
        let next = go-next (at_face s.keys face) until (at_face g.faces face) some in
        rw (waiting-gone s face m until g) (omega (arith, few, next.some, length-drop count (waiting_at face g)))

    by : (t : Bool) → (next_count (at_face s.keys face) until (at_face g.faces face) == 0) ≡ t
        → (length (waiting_at face (go s face m until g).gate) ≤ n → NothingGoes s face until (go_on s face m until n (go s face m until g).gate).gate)
        → NothingGoes s face until (if t then stays_so g else and_then (go s face m until g) (go_on s face m until n)).gate
    by true is rest =
        none-next (at_face s.keys face) until (at_face g.faces face) (eqb-true (next_count (at_face s.keys face) until (at_face g.faces face)) 0 is)
    by false is rest =
        rest (fewer (eqb-false (next_count (at_face s.keys face) until (at_face g.faces face)) 0 is))

go-all-none : (s : PeerSetup) (face : Face) (m : PeerMoments) (until : ℕ) (g : PeerGate) → NothingGoes s face until (go_all s face m until g).gate
go-all-none s face m until g = go-on-none s face m until (length (waiting_at face g)) g (omega arith)

-- ---- a piece was added

pub complete_goes : CompleteGoes
unfolding adds and_then
complete_goes s face m is_report piece g = go-all-none s face m no_time (waits_too face piece is_report g).gate

-- nothing is late before any time has passed
none-late : (wait : ℕ) (pieces : List Piece) → 1 ≤ wait → is_late wait no_time pieces ≡ false
none-late wait [] some = refl
none-late wait (piece ∷ pieces) some = lt-leb wait (no_time - piece.added) (omega (arith, some))

pub complete_at_once : CompleteAtOnce
unfolding ready
complete_at_once g some = rw (none-late g.wait_ms g.waiting some) (by (is_complete g))
  where
    by : (t : Bool) → (if t || false then (front_in g).count else 0) ≡ (if t then (front_in g).count else 0)
    by true = refl
    by false = refl

-- ---- time passed, or a session ended

-- the other face stays as it was
old-stays : (s : PeerSetup) (m : PeerMoments) (until n : ℕ) (g : PeerGate) → (go_on s faces.New m until n g).gate.faces.0 ≡ g.faces.0
unfolding go_on and_then go
old-stays s m until zero g = refl
old-stays s m until (suc n) g =
    by (next_count s.keys.1 until g.faces.1 == 0) (old-stays s m until n (go s faces.New m until g).gate)
  where
    by : (t : Bool) → (go_on s faces.New m until n (go s faces.New m until g).gate).gate.faces.0 ≡ g.faces.0
        → (if t then stays_so g else and_then (go s faces.New m until g) (go_on s faces.New m until n)).gate.faces.0 ≡ g.faces.0
    by true rest = refl
    by false rest = rest

ticked : (s : PeerSetup) (m : PeerMoments) (face : Face) (g : PeerGate) → NothingGoes s face (m.at face) (ticks_peer s m g).gate
unfolding ticks_peer and_then
ticked s m faces.Old g =
    let h = (ticks_face s m faces.Old g).gate in
    let i = (does_at s faces.New h (ticks s.keys.1 h.faces.1.sessions (m.at faces.New))).gate in
    let stays = old-stays s m (m.at faces.New) (length (waiting_at faces.New i)) i in
    let before = go-all-none s faces.Old m (m.at faces.Old) (does_at s faces.Old g (ticks s.keys.0 g.faces.0.sessions (m.at faces.Old))).gate in
    subst (λ (f : PeerFace). is_free s.keys.0 f ≡ true → ready f.gathering (m.at faces.Old) ≡ 0) (sym stays) before
ticked s m faces.New g =
    let h = (ticks_face s m faces.Old g).gate in
    go-all-none s faces.New m (m.at faces.New) (does_at s faces.New h (ticks s.keys.1 h.faces.1.sessions (m.at faces.New))).gate

due-none : (ended : Bool) (s : PeerSetup) (m : PeerMoments) (face : Face) (g : PeerGate) → ended ≡ true
    → NothingGoes s face (m.at face) (due_if ended s m face g).gate
due-none true s m face g is = go-all-none s face m (m.at face) g
due-none false s m face g is = absurd (cc)

pub ready_goes : ReadyGoes
unfolding and_then
ready_goes = record {
  ticked = ticked;
  ended = λ s m face g step is.
      due-none _ s m face (in_turn (passes s face m) (step.effects).ups (does_at s face g step).gate).gate is;
}
