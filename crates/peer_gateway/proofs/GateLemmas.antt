-- What a gateway of the code did is what the definition's gate does.

use Rattle.std.proofs.Common.{◌≡◌, ◌≢◌, ℕ, zero, suc, Bool, false, length, Result, Ok, Err, OnOk, refl, sym, ap, subst, ◌∙◌}
use Rattle.std.proofs.lemmas.Bool.{ne_eqb}
use Rattle.piece_gathering.specs.declared.piece.Piece.{Piece}
use Rattle.gate_cases.specs.declared.face.Face.{Face}
use Rattle.gate_cases.specs.declared.face.Face.TheVariants as faces
use Rattle.gateway_core.specs.Gate.{at_face}
use Rattle.peer_sessions.specs.Sessions.{SessionsStep, ticks}
use Rattle.peer_gateway.specs.declared.faces.FaceParts.{FaceParts}
use Rattle.peer_gateway.specs.declared.moments.Moments.{Moments}
use Rattle.peer_gateway.specs.declared.parts.Parts.{Parts}
use Rattle.peer_gateway.specs.Keys.{PeerSetup}
use Rattle.peer_gateway.specs.Gate.{PeerMoments, PeerGate, PeerStep, stays_so, and_then}
use Rattle.peer_gateway.specs.Going.{next_count, no_time, go, go_on, go_all, waits_too, adds}
use Rattle.peer_gateway.specs.Steps.{does_at, ticks_face, ticks_peer, PeerEvent, with_outboxes, does, peer_step}
use Rattle.peer_gateway.specs.Answers.{Answered, answer_of, nothing_answered, then_done}
use Rattle.peer_gateway.specs.Faces.{FaceSetup, FaceStep, keys_at, face_of, setup_at, IsSized, IsFace, face_does, face_waits, face_goes, FaceDid}
use Rattle.peer_gateway.specs.Views.{moments_of}
use Rattle.peer_gateway.specs.Ties.{face_at, setup_in, gate_of, IsWhole, Did, IsFound, at_gate, SameBut, PeerGatewayValue, PeerSteps}
use Rattle.peer_gateway.proofs.AnswerLemmas.{then-none, then-more, none-then}

-- ---- steps one after the other

pub did-nothing : (p : Parts) (a : Answered) → IsWhole p → Did p p a a (stays_so (gate_of p))
did-nothing p a whole = record { whole = whole; setup = refl; gate = refl; answer = sym (then-none a) }

pub did-then : (next : PeerSetup → PeerGate → PeerStep) (p q r : Parts) (a b c : Answered) (step : PeerStep) → Did p q a b step
    → Did q r b c (next (setup_in q) (gate_of q)) → Did p r a c (and_then step (next (setup_in p)))
unfolding and_then
did-then next p q r a b c step first second =
    let same : next (setup_in q) (gate_of q) ≡ next (setup_in p) step.gate =
    ap (λ s. next s (gate_of q)) first.setup ∙ ap (next (setup_in p)) first.gate in
    record {
      whole = second.whole;
      setup = second.setup ∙ first.setup;
      gate = second.gate ∙ ap (λ (s : PeerStep). s.gate) same;
      answer = second.answer
          ∙ (ap (λ (s : PeerStep). then_done b s.effects) same
          ∙ (ap (λ d. then_done d (next (setup_in p) step.gate).effects) first.answer
          ∙ then-more a step.effects (next (setup_in p) step.gate).effects));
    }

-- ---- at a face

pub setup-at : (p : Parts) (face : Face) → IsWhole p
    → setup_at (face_at p face) ≡ record { face = face; settings = p.settings; keys = at_face (setup_in p).keys face }
setup-at p faces.Old whole = rw (whole.old_is, whole.old_settings) refl
setup-at p faces.New whole = rw (whole.new_is, whole.new_settings) refl

pub did-at : (face : Face) (p q : Parts) (a b : Answered) (step : FaceStep) → IsWhole p → SameBut face p q
    → FaceDid (face_at p face) (face_at q face) a b step → Did p q a b (at_gate face (gate_of p) step)
did-at faces.Old p q a b step whole same did = record {
  whole = record {
    old_face = did.whole;
    new_face = subst IsFace (sym same.other) whole.new_face;
    old_is = ap (λ (s : FaceSetup). s.face) did.setup ∙ whole.old_is;
    new_is = ap (λ (f : FaceParts). f.face) same.other ∙ whole.new_is;
    old_settings = ap (λ (s : FaceSetup). s.settings) did.setup ∙ (whole.old_settings ∙ sym same.settings);
    new_settings = ap (λ (f : FaceParts). f.settings) same.other ∙ (whole.new_settings ∙ sym same.settings);
    config = rw (same.gate, same.cut) whole.config;
    counter = rw same.counter whole.counter;
  };
  setup = rw (ap (λ (s : FaceSetup). s.keys) did.setup, ap keys_at same.other, same.settings, same.gate, same.cut) refl;
  gate = rw (did.is, ap face_of same.other, same.counter) refl;
  answer = did.answer;
}
did-at faces.New p q a b step whole same did = record {
  whole = record {
    old_face = subst IsFace (sym same.other) whole.old_face;
    new_face = did.whole;
    old_is = ap (λ (f : FaceParts). f.face) same.other ∙ whole.old_is;
    new_is = ap (λ (s : FaceSetup). s.face) did.setup ∙ whole.new_is;
    old_settings = ap (λ (f : FaceParts). f.settings) same.other ∙ (whole.old_settings ∙ sym same.settings);
    new_settings = ap (λ (s : FaceSetup). s.settings) did.setup ∙ (whole.new_settings ∙ sym same.settings);
    config = rw (same.gate, same.cut) whole.config;
    counter = rw same.counter whole.counter;
  };
  setup = rw (ap (λ (s : FaceSetup). s.keys) did.setup, ap keys_at same.other, same.settings, same.gate, same.cut) refl;
  gate = rw (did.is, ap face_of same.other, same.counter) refl;
  answer = did.answer;
}

-- ---- the steps of the definition, at a face

pub go-at : (face : Face) (p : Parts) (m : Moments) (until : ℕ) → IsWhole p
    → at_gate face (gate_of p) (face_goes (setup_at (face_at p face)) (at_face (m.old, m.new) face) until (face_of (face_at p face)))
    ≡ go (setup_in p) face (moments_of m) until (gate_of p)
unfolding go
go-at faces.Old p m until whole =
    ap (λ s. at_gate faces.Old (gate_of p) (face_goes s m.old until (face_of p.old_face))) (setup-at p faces.Old whole)
go-at faces.New p m until whole =
    ap (λ s. at_gate faces.New (gate_of p) (face_goes s m.new until (face_of p.new_face))) (setup-at p faces.New whole)

pub waits-at : (face : Face) (p : Parts) (piece : Piece) (is_report : Bool) → IsWhole p
    → at_gate face (gate_of p) (face_waits (face_at p face).face piece is_report (face_of (face_at p face)))
    ≡ waits_too face piece is_report (gate_of p)
waits-at faces.Old p piece is_report whole =
    ap (λ face. at_gate faces.Old (gate_of p) (face_waits face piece is_report (face_of p.old_face))) whole.old_is
waits-at faces.New p piece is_report whole =
    ap (λ face. at_gate faces.New (gate_of p) (face_waits face piece is_report (face_of p.new_face))) whole.new_is

pub does-at : (face : Face) (p : Parts) (step : SessionsStep) → IsWhole p
    → at_gate face (gate_of p) (face_does (keys_at (face_at p face)) (face_at p face).face (face_of (face_at p face)) step) ≡ does_at (setup_in p) face (gate_of p) step
does-at faces.Old p step whole =
    ap (λ face. at_gate faces.Old (gate_of p) (face_does (keys_at p.old_face) face (face_of p.old_face) step)) whole.old_is
does-at faces.New p step whole =
    ap (λ face. at_gate faces.New (gate_of p) (face_does (keys_at p.new_face) face (face_of p.new_face) step)) whole.new_is

pub did-as : (p q : Parts) (a b : Answered) (one other : PeerStep) → one ≡ other → Did p q a b one → Did p q a b other
did-as p q a b one other same did = subst (Did p q a b) same did

-- ---- blocks go, one after the other

-- with so many blocks at most still to come, the gate and what is told will be the same
pub record Goes (p q : Parts) (a b : Answered) (face : Face) (m : PeerMoments) (until most left : ℕ) : Type 0 where
  pub whole : IsWhole q
  pub setup : setup_in q ≡ setup_in p
  pub gate : (go_on (setup_in p) face m until left (gate_of q)).gate ≡ (go_on (setup_in p) face m until most (gate_of p)).gate
  pub answer : then_done b (go_on (setup_in p) face m until left (gate_of q)).effects
      ≡ then_done a (go_on (setup_in p) face m until most (gate_of p)).effects

pub goes-first : (p : Parts) (a : Answered) (face : Face) (m : PeerMoments) (until most : ℕ) → IsWhole p → Goes p p a a face m until most most
goes-first p a face m until most whole = record { whole = whole; setup = refl; gate = refl; answer = refl }

on-none : (s : PeerSetup) (face : Face) (m : PeerMoments) (until left : ℕ) (g : PeerGate) → next_count (at_face s.keys face) until (at_face g.faces face) ≡ 0
    → go_on s face m until left g ≡ stays_so g
unfolding go_on
on-none s face m until zero g none = refl
on-none s face m until (suc left) g none = rw none refl

on-some : (s : PeerSetup) (face : Face) (m : PeerMoments) (until left : ℕ) (g : PeerGate) → next_count (at_face s.keys face) until (at_face g.faces face) ≢ 0
    → go_on s face m until (suc left) g ≡ and_then (go s face m until g) (go_on s face m until left)
unfolding go_on
on-some s face m until left g some = rw (ne_eqb (next_count (at_face s.keys face) until (at_face g.faces face)) 0 some) refl

-- none goes next, or as many went as may
pub goes-done : (p q : Parts) (a b : Answered) (face : Face) (m : PeerMoments) (until most left : ℕ) → Goes p q a b face m until most left
    → go_on (setup_in p) face m until left (gate_of q) ≡ stays_so (gate_of q) → Did p q a b (go_on (setup_in p) face m until most (gate_of p))
goes-done p q a b face m until most left goes none = record {
  whole = goes.whole;
  setup = goes.setup;
  gate = sym (ap (λ (s : PeerStep). s.gate) none) ∙ goes.gate;
  answer = sym (then-none b) ∙ (sym (ap (λ (s : PeerStep). then_done b s.effects) none) ∙ goes.answer);
}

pub goes-none : (p q : Parts) (a b : Answered) (face : Face) (m : PeerMoments) (until most left : ℕ) → Goes p q a b face m until most left
    → next_count (at_face (setup_in q).keys face) until (at_face (gate_of q).faces face) ≡ 0 → Did p q a b (go_on (setup_in p) face m until most (gate_of p))
goes-none p q a b face m until most left goes none =
    goes-done p q a b face m until most left goes (on-none (setup_in p) face m until left (gate_of q)
    (subst (λ (s : PeerSetup). next_count (at_face s.keys face) until (at_face (gate_of q).faces face) ≡ 0) goes.setup none))

pub goes-last : (p q : Parts) (a b : Answered) (face : Face) (m : PeerMoments) (until most : ℕ) → Goes p q a b face m until most 0
    → Did p q a b (go_on (setup_in p) face m until most (gate_of p))
unfolding go_on
goes-last p q a b face m until most goes = goes-done p q a b face m until most 0 goes refl

pub goes-more : (p q r : Parts) (a b c : Answered) (face : Face) (m : PeerMoments) (until most left : ℕ) → Goes p q a b face m until most (suc left)
    → next_count (at_face (setup_in q).keys face) until (at_face (gate_of q).faces face) ≢ 0 → Did q r b c (go (setup_in q) face m until (gate_of q))
    → Goes p r a c face m until most left
unfolding and_then
goes-more p q r a b c face m until most left goes some did =
    let s = setup_in p in
    let step = go s face m until (gate_of q) in
    let went = subst (λ (x : PeerSetup). Did q r b c (go x face m until (gate_of q))) goes.setup did in
    let more = subst (λ (x : PeerSetup). next_count (at_face x.keys face) until (at_face (gate_of q).faces face) ≢ 0) goes.setup some in
    let next = on-some s face m until left (gate_of q) more in
    record {
      whole = went.whole;
      setup = went.setup ∙ goes.setup;
      gate = ap (λ (g : PeerGate). (go_on s face m until left g).gate) went.gate
          ∙ (sym (ap (λ (x : PeerStep). x.gate) next) ∙ goes.gate);
      answer = ap (λ (g : PeerGate). then_done c (go_on s face m until left g).effects) went.gate
          ∙ (ap (λ (x : Answered). then_done x (go_on s face m until left step.gate).effects) went.answer
          ∙ (then-more b step.effects (go_on s face m until left step.gate).effects
          ∙ (sym (ap (λ (x : PeerStep). then_done b x.effects) next) ∙ goes.answer)));
    }

-- ---- a face of the code did it

pub sized-there : (face at : Face) (p : Parts) (piece : Piece) → face ≡ at → IsWhole p → IsSized p.settings face piece
    → IsSized (face_at p at).settings (face_at p at).face piece
sized-there face at p piece is whole sized =
    subst (λ (x : FaceSetup). IsSized x.settings x.face piece) (sym (setup-at p at whole)) (subst (λ (f : Face). IsSized p.settings f piece) is sized)

pub next-there : (face at : Face) (p : Parts) (until : ℕ) → face ≡ at
    → next_count (at_face (setup_in p).keys face) until (at_face (gate_of p).faces face) ≢ 0
    → next_count (keys_at (face_at p at)) until (face_of (face_at p at)) ≢ 0
next-there face at p until is some =
    by at (subst (λ (f : Face). next_count (at_face (setup_in p).keys f) until (at_face (gate_of p).faces f) ≢ 0) is some)
  where
    by : (f : Face) → next_count (at_face (setup_in p).keys f) until (at_face (gate_of p).faces f) ≢ 0
        → next_count (keys_at (face_at p f)) until (face_of (face_at p f)) ≢ 0
    by faces.Old some = some
    by faces.New some = some

there : {A E : Type 0} (face at : Face) (p q : Parts) (a b : Answered) (result : Result A E) (step : FaceStep) (does : Face → PeerStep) → face ≡ at
    → IsWhole p → SameBut at p q → at_gate at (gate_of p) step ≡ does at → OnOk result (FaceDid (face_at p at) (face_at q at) a b step)
    → OnOk result (Did p q a b (does face))
there face at p q a b (Err e) step does is whole same so did = tt
there face at p q a b (Ok x) step does is whole same so did =
    did-as p q a b (at_gate at (gate_of p) step) (does face) (so ∙ ap does (sym is)) (did-at at p q a b step whole same did)

pub waited-there : {A E : Type 0} (face at : Face) (p q : Parts) (a b : Answered) (result : Result A E) (piece : Piece) (is_report : Bool) → face ≡ at
    → IsWhole p → SameBut at p q
    → OnOk result (FaceDid (face_at p at) (face_at q at) a b (face_waits (face_at p at).face piece is_report (face_of (face_at p at))))
    → OnOk result (Did p q a b (waits_too face piece is_report (gate_of p)))
waited-there face at p q a b result piece is_report is whole same did =
    there face at p q a b result (face_waits (face_at p at).face piece is_report (face_of (face_at p at)))
    (λ f. waits_too f piece is_report (gate_of p)) is whole same (waits-at at p piece is_report whole) did

pub went-there : {A E : Type 0} (face at : Face) (p q : Parts) (a b : Answered) (result : Result A E) (m : Moments) (until : ℕ) → face ≡ at
    → IsWhole p → SameBut at p q
    → OnOk result (FaceDid (face_at p at) (face_at q at) a b
    (face_goes (setup_at (face_at p at)) (at_face (m.old, m.new) at) until (face_of (face_at p at))))
    → OnOk result (Did p q a b (go (setup_in p) face (moments_of m) until (gate_of p)))
went-there face at p q a b result m until is whole same did =
    there face at p q a b result (face_goes (setup_at (face_at p at)) (at_face (m.old, m.new) at) until (face_of (face_at p at)))
    (λ f. go (setup_in p) f (moments_of m) until (gate_of p)) is whole same (go-at at p m until whole) did

ticks-at : (face : Face) (p : Parts) (m : Moments) → IsWhole p
    → at_gate face (gate_of p) (face_does (keys_at (face_at p face)) (face_at p face).face (face_of (face_at p face))
    (ticks (keys_at (face_at p face)) (face_of (face_at p face)).sessions (at_face (m.old, m.new) face).at))
    ≡ does_at (setup_in p) face (gate_of p) (ticks (at_face (setup_in p).keys face) (at_face (gate_of p).faces face).sessions ((moments_of m).at face))
ticks-at faces.Old p m whole = does-at faces.Old p (ticks (keys_at p.old_face) (face_of p.old_face).sessions m.old.at) whole
ticks-at faces.New p m whole = does-at faces.New p (ticks (keys_at p.new_face) (face_of p.new_face).sessions m.new.at) whole

pub ticked-there : {A E : Type 0} (face at : Face) (p q : Parts) (a b : Answered) (result : Result A E) (m : Moments) → face ≡ at
    → IsWhole p → SameBut at p q
    → OnOk result (FaceDid (face_at p at) (face_at q at) a b (face_does (keys_at (face_at p at)) (face_at p at).face (face_of (face_at p at))
    (ticks (keys_at (face_at p at)) (face_of (face_at p at)).sessions (at_face (m.old, m.new) at).at)))
    → OnOk result (Did p q a b (does_at (setup_in p) face (gate_of p)
    (ticks (at_face (setup_in p).keys face) (at_face (gate_of p).faces face).sessions ((moments_of m).at face))))
ticked-there face at p q a b result m is whole same did =
    there face at p q a b result (face_does (keys_at (face_at p at)) (face_at p at).face (face_of (face_at p at))
    (ticks (keys_at (face_at p at)) (face_of (face_at p at)).sessions (at_face (m.old, m.new) at).at))
    (λ f. does_at (setup_in p) f (gate_of p) (ticks (at_face (setup_in p).keys f) (at_face (gate_of p).faces f).sessions ((moments_of m).at f)))
    is whole same (ticks-at at p m whole) did

-- ---- one call after another

pub then-ok : {A E : Type 0} (next : PeerSetup → PeerGate → PeerStep) (p q r : Parts) (a b c : Answered) (step : PeerStep) (result : Result A E)
    → Did p q a b step → OnOk result (Did q r b c (next (setup_in q) (gate_of q))) → OnOk result (Did p r a c (and_then step (next (setup_in p))))
then-ok next p q r a b c step (Err e) first second = tt
then-ok next p q r a b c step (Ok x) first second = did-then next p q r a b c step first second

pub adds-so : {A E : Type 0} (p q r : Parts) (a b c : Answered) (face : Face) (m : PeerMoments) (is_report : Bool) (piece : Piece) (result : Result A E)
    → Did p q a b (waits_too face piece is_report (gate_of p)) → OnOk result (Did q r b c (go_all (setup_in q) face m no_time (gate_of q)))
    → OnOk result (Did p r a c (adds (setup_in p) face m is_report piece (gate_of p)))
unfolding adds
adds-so p q r a b c face m is_report piece result first second =
    then-ok (λ s. go_all s face m no_time) p q r a b c (waits_too face piece is_report (gate_of p)) result first second

pub ticks-so : {A E : Type 0} (p q r : Parts) (a b c : Answered) (m : PeerMoments) (result : Result A E)
    → Did p q a b (ticks_face (setup_in p) m faces.Old (gate_of p)) → OnOk result (Did q r b c (ticks_face (setup_in q) m faces.New (gate_of q)))
    → OnOk result (Did p r a c (ticks_peer (setup_in p) m (gate_of p)))
unfolding ticks_peer
ticks-so p q r a b c m result first second =
    then-ok (λ s. ticks_face s m faces.New) p q r a b c (ticks_face (setup_in p) m faces.Old (gate_of p)) result first second

-- ---- a face that is lent

pub face-there : (face : Face) (p : Parts) (f : FaceParts) → f ≡ face_at p face → IsWhole p → IsFace f
face-there faces.Old p f is whole = subst IsFace (sym is) whole.old_face
face-there faces.New p f is whole = subst IsFace (sym is) whole.new_face

pub count-there : (face : Face) (p : Parts) (f : FaceParts) (until n : ℕ) → f ≡ face_at p face → n ≡ next_count (keys_at f) until (face_of f)
    → n ≡ next_count (at_face (setup_in p).keys face) until (at_face (gate_of p).faces face)
count-there faces.Old p f until n is count = count ∙ ap (λ (x : FaceParts). next_count (keys_at x) until (face_of x)) is
count-there faces.New p f until n is count = count ∙ ap (λ (x : FaceParts). next_count (keys_at x) until (face_of x)) is

pub waiting-there : (face : Face) (p : Parts) (f : FaceParts) (n : ℕ) → f ≡ face_at p face → n ≡ length (f.gathering).waiting
    → n ≡ length ((at_face (gate_of p).faces face).gathering).waiting
waiting-there faces.Old p f n is count = count ∙ ap (λ (x : FaceParts). length (x.gathering).waiting) is
waiting-there faces.New p f n is count = count ∙ ap (λ (x : FaceParts). length (x.gathering).waiting) is

-- some go next
pub some-there : (face : Face) (p : Parts) (f : FaceParts) (until n : ℕ) → f ≡ face_at p face → n ≡ next_count (keys_at f) until (face_of f) → n ≢ 0
    → next_count (at_face (setup_in p).keys face) until (at_face (gate_of p).faces face) ≢ 0
some-there face p f until n is count some = λ none. some (count-there face p f until n is count ∙ none)

-- ---- as many blocks as pieces

pub goes-begin : (p : Parts) (a : Answered) (face : Face) (m : PeerMoments) (until most left : ℕ) → left ≡ most → IsWhole p
    → Goes p p a a face m until most left
goes-begin p a face m until most left is whole =
    subst (λ (n : ℕ). Goes p p a a face m until most n) (sym is) (goes-first p a face m until most whole)

pub goes-next : (p q r : Parts) (a b c : Answered) (face : Face) (m : PeerMoments) (until most left next : ℕ) → left ≡ suc next
    → Goes p q a b face m until most left → next_count (at_face (setup_in q).keys face) until (at_face (gate_of q).faces face) ≢ 0
    → Did q r b c (go (setup_in q) face m until (gate_of q)) → Goes p r a c face m until most next
goes-next p q r a b c face m until most left next is goes some did =
    goes-more p q r a b c face m until most next (subst (λ (n : ℕ). Goes p q a b face m until most n) is goes) some did

pub all-none : (p q : Parts) (a b : Answered) (face : Face) (m : PeerMoments) (until most left : ℕ)
    → most ≡ length ((at_face (gate_of p).faces face).gathering).waiting → Goes p q a b face m until most left
    → next_count (at_face (setup_in q).keys face) until (at_face (gate_of q).faces face) ≡ 0 → Did p q a b (go_all (setup_in p) face m until (gate_of p))
all-none p q a b face m until most left is goes none =
    subst (λ (n : ℕ). Did p q a b (go_on (setup_in p) face m until n (gate_of p))) is (goes-none p q a b face m until most left goes none)

pub all-went : (p q : Parts) (a b : Answered) (face : Face) (m : PeerMoments) (until most left : ℕ)
    → most ≡ length ((at_face (gate_of p).faces face).gathering).waiting → left ≡ 0 → Goes p q a b face m until most left
    → Did p q a b (go_all (setup_in p) face m until (gate_of p))
all-went p q a b face m until most left is none goes =
    subst (λ (n : ℕ). Did p q a b (go_on (setup_in p) face m until n (gate_of p))) is
    (goes-last p q a b face m until most (subst (λ (n : ℕ). Goes p q a b face m until most n) none goes))

-- ---- an event

pub event-so : (old : PeerGatewayValue) (spent : Bool) (p q r : Parts) (event : PeerEvent) (m : PeerMoments) (octets : ℕ × ℕ) (none answer : Answered)
    → old ≡ record { spent = spent; setup = setup_in p; gate = gate_of p } → IsFound p q octets → none ≡ nothing_answered
    → Did q r none answer (does (setup_in q) event m (gate_of q))
    → PeerSteps old (record { spent = false; setup = setup_in r; gate = gate_of r }) event m octets answer
unfolding peer_step
event-so old spent p q r event m octets none answer is found nothing did =
    let step = does (setup_in q) event m (gate_of q) in
    let same : step ≡ does (setup_in p) event m (with_outboxes octets (gate_of p)) =
    ap (λ (s : PeerSetup). does s event m (gate_of q)) found.setup ∙ ap (does (setup_in p) event m) found.gate in
    let olds : does (setup_in p) event m (with_outboxes octets (gate_of p)) ≡ does old.setup event m (with_outboxes octets old.gate) =
    sym (ap (λ (v : PeerGatewayValue). does v.setup event m (with_outboxes octets v.gate)) is) in
    let all = same ∙ olds in
    record {
      whole = refl;
      setup = did.setup ∙ (found.setup ∙ sym (ap (λ (v : PeerGatewayValue). v.setup) is));
      gate = did.gate ∙ ap (λ (s : PeerStep). s.gate) all;
      answer_is = did.answer
          ∙ (ap (λ (a : Answered). then_done a step.effects) nothing
          ∙ (none-then step.effects ∙ ap (λ (s : PeerStep). answer_of s.effects) all));
    }
