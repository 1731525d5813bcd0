-- What the gate begins is decided as the event comes that hands the block up.

use Rattle.std.proofs.Common.{◌≡◌, ℕ, ◌+◌, List, [], ◌∷◌, map, Option, None, Some, Result, Ok, Err}
use Rattle.std.proofs.Common.{◌⊎◌, inl, inr, refl, sym, ◌∙◌, ap, arith, subst}
use Rattle.std.specs.List.{AllByRecursion, slice_get}
use Rattle.ltp_segment.specs.Values.{SegmentValue}
use Rattle.ltp_session.specs.Engine.{Engine, EngineStep, SubmitFault, UpValue}
use Rattle.ltp_laws.specs.View.{IsIn}
use Rattle.gate_cases.specs.declared.face.Face.{Face}
use Rattle.gate_cases.specs.declared.judged.Judged.{Judged}
use Rattle.gate_cases.specs.Bundles.{status_bundle}
use Rattle.gate_cases.specs.Cases.{judged}
use Rattle.gate_cases.specs.Faces.{other_of}
use Rattle.gateway_core.specs.declared.effects.FaceUp.{FaceUp}
use Rattle.gateway_core.specs.Gate.{Gate, and_then, arrives_at, at_face, does_at, hears_at, in_turn}
use Rattle.gateway_core.specs.Gate.{judged_at, passes_at, room_of, sends_at, up_at}
use Rattle.path_laws.specs.declared.effects.UpAt.{UpAt}
use Rattle.path_laws.specs.declared.places.PathEnd.{PathEnd}
use Rattle.path_laws.specs.Places.{Stand, across, at_gate, at_node, end_of, face_of, face_place}
use Rattle.path_laws.specs.Places.{node_place, stand_of}
use Rattle.path_laws.specs.Path.{Path, PathEvent, PathSetup, SentFrom, at_path_end, clock_shows}
use Rattle.path_laws.specs.Path.{comes_to}
use Rattle.path_laws.specs.Path.{delivers, delivers_if, gate_up, path_run, path_step, sends}
use Rattle.path_laws.specs.Path.{sends_block, up_from}
use Rattle.path_laws.specs.Log.{Begun, a_send, begun_at, begun_in, begun_unless, come_begun, decided_begun}
use Rattle.path_laws.specs.Log.{delivered_begun, passed_begun, pieces_begun, report_begun}
use Rattle.path_laws.proofs.LogLemmas.{all-in, all-more, in-left}
use Rattle.path_laws.proofs.OriginLemmas.{came_up, face-end, pieces-all, report-all}
use Rattle.path_drain.proofs.CaseNotes.{HasOneAtMost, heard-one, make-in, other-stays}
use Rattle.path_drain.proofs.PathNotes.{pieces-counter}
use Rattle.path_drain.proofs.AdvanceLemmas.{in-either}
use Rattle.path_drain.specs.Decided.{BegunAreDecided, IsBegunIn, IsDecidedAt}

-- ---- one block

abbrev IsDecided : PathSetup → Path → PathEvent → List UpAt → Begun → Type 0
IsDecided s w event ups b = IsDecidedAt s w event ups b.origin b.block

-- at a gate h that the event has left as w's gate was, but for the face at which the block came
block-decided : (s : PathSetup) (w : Path) (event : PathEvent) (face : Face) (n : ℕ)
    (body : List ℕ) (h : Gate) (ups : List UpAt)
    → at_face h.engines (other_of face) ≡ at_face w.gate.engines (other_of face)
    → h.counter ≡ w.gate.counter
    → IsIn (came_up (end_of face) n body) ups
    → AllByRecursion (IsDecided s w event ups)
    (decided_begun s.gate face w.now n (judged_at s.gate face w.now body h) h)
block-decided s w event face n body h ups room counter came =
    all-more (IsDecided s w event ups)
    (pieces_begun s.gate (other_of face) w.now (end_of face) n 0 j.pieces h)
    (report_begun s.gate face w.now (end_of face) n j.report sent)
    (pieces-all (IsDecided s w event ups) s.gate (other_of face) w.now (end_of face) n 0 j.pieces h
    (λ k piece session is. record {
      bundle = body;
      came = came;
      piece = subst (λ (i : ℕ). slice_get
          (judged_at s.gate (face_of (end_of face)) w.now body w.gate).pieces i ≡ Some piece)
          (none_plus k)
          (subst (λ (j : Judged). slice_get j.pieces k ≡ Some piece) same is);
    }))
    (report-all (IsDecided s w event ups) s.gate face w.now (end_of face) n j.report sent
    (λ asked session is. record {
      bundle = body;
      came = came;
      asked = asked;
      asks = subst (λ (j : Judged). j.report ≡ Some asked) same is;
      spelled = ap (λ (number : ℕ). status_bundle s.gate.gate number w.now asked)
          (pieces-counter s.gate (other_of face) w.now j.pieces h ∙ counter);
    }))
  where
    j : Judged
    j = judged_at s.gate face w.now body h

    sent : Gate
    sent = (in_turn (sends_at s.gate (other_of face) w.now)
        (judged_at s.gate face w.now body h).pieces h).gate

    none_plus : (k : ℕ) → k ≡ 0 + k
    none_plus k = omega arith

    same : judged_at s.gate face w.now body h
        ≡ judged_at s.gate (face_of (end_of face)) w.now body w.gate
    same = ap (λ (e : Engine). judged face body w.now s.gate.cut (room_of e)) room
        ∙ ap (λ (f : Face). judged_at s.gate f w.now body w.gate) (sym (face-end face))

-- ---- an event

passed-decided : (s : PathSetup) (w : Path) (event : PathEvent) (face : Face)
    (ups : List UpValue) (h : Gate) (all : List UpAt) → HasOneAtMost ups
    → at_face h.engines (other_of face) ≡ at_face w.gate.engines (other_of face)
    → h.counter ≡ w.gate.counter
    → ((up : UpValue) → IsIn up ups → IsIn (up_from (face_place face) up) all)
    → AllByRecursion (IsDecided s w event all) (passed_begun s.gate face w.now ups h)
unfolding passed_begun
passed-decided s w event face [] h all one room counter among = tt
passed-decided s w event face (up ∷ ups) h all one room counter among =
    all-more (IsDecided s w event all)
    (decided_begun s.gate face w.now up.session (judged_at s.gate face w.now up.body h) h)
    (passed_begun s.gate face w.now ups (passes_at s.gate face w.now up h).gate)
    (block-decided s w event face up.session up.body h all room counter
    (subst (λ (f : Face). IsIn {X = UpAt}
    (record { place = face_place f; session = up.session; body = up.body }) all)
    (sym (face-end face)) (among up (inl refl))))
    (subst (λ (us : List UpValue). AllByRecursion (IsDecided s w event all)
    (passed_begun s.gate face w.now us (passes_at s.gate face w.now up h).gate)) (sym one) tt)

come-decided : (s : PathSetup) (w : Path) (event : PathEvent) (stand : Stand)
    (segment : SegmentValue)
    → AllByRecursion (IsDecided s w event (comes_to s w stand segment).effects.ups)
    (come_begun s w stand segment)
unfolding arrives_at and_then
come-decided s w event (at_node end) segment = tt
come-decided s w event (at_gate face) segment =
    passed-decided s w event face heard.effects.ups (does_at face w.gate heard).gate
    (comes_to s w (at_gate face) segment).effects.ups
    (heard-one (at_face s.gate.parties face) (at_face w.gate.engines face) (Ok segment) w.now)
    (other-stays w.gate.engines face heard.engine) refl
    (λ up is. make-in gate_up _ (up_at face up)
    (in-left (up_at face up) (map (up_at face) heard.effects.ups) more
    (make-in (up_at face) heard.effects.ups up is)))
  where
    heard : EngineStep
    heard = hears_at s.gate face w.gate (Ok segment) w.now

    more : List FaceUp
    more = (in_turn (passes_at s.gate face w.now)
        (hears_at s.gate face w.gate (Ok segment) w.now).effects.ups
        (does_at face w.gate (hears_at s.gate face w.gate (Ok segment) w.now)).gate).effects.ups

-- what an end's send begins
abbrev sent_begun : PathSetup → Path → PathEnd → List ℕ → Begun
sent_begun s w end block = record {
  place = node_place end;
  session = (at_path_end w.nodes end).next;
  block = block;
  origin = a_send end (at_path_end w.nodes end).next;
}

step-decided : (s : PathSetup) (w : Path) (event : PathEvent)
    → AllByRecursion (IsDecided s w event (path_step s w event).effects.ups) (begun_at s w event)
unfolding path_step
step-decided s w (sends end block) = by (sends_block s w end block)
  where
    by : (r : Result EngineStep SubmitFault)
        → AllByRecursion (IsDecided s w (sends end block)
        (path_step s w (sends end block)).effects.ups)
        (begun_unless (sent_begun s w end block) r)
    by (Ok step) = (refl, tt)
    by (Err fault) = tt
step-decided s w (delivers k) = by (slice_get w.sent k)
  where
    by : (got : Option SentFrom)
        → AllByRecursion (IsDecided s w (delivers k) (delivers_if s w got).effects.ups)
        (delivered_begun s w got)
    by None = tt
    by (Some d) = come-decided s w (delivers k) (stand_of (across d.from)) d.segment
step-decided s w (clock_shows now) = tt

-- ---- a run

pub begun-decided : BegunAreDecided
unfolding begun_in path_run
begun-decided s w [] b is = absurd is
begun-decided s w (event ∷ events) b is =
    by (begun-decided s (path_step s w event).path events b) (in-either b (begun_at s w event)
    (begun_in s (path_step s w event).path events) is)
  where
    by : (IsIn b (begun_in s (path_step s w event).path events)
        → IsBegunIn s (path_step s w event).path events b)
        → IsIn b (begun_at s w event) ⊎ IsIn b (begun_in s (path_step s w event).path events)
        → IsBegunIn s w (event ∷ events) b
    by rest (inl here) = record {
      earlier = [];
      event = event;
      later = events;
      among = refl;
      begins = here;
      decided = all-in (IsDecided s w event (path_step s w event).effects.ups) (begun_at s w event)
          (step-decided s w event) b here;
    }
    by rest (inr there) =
        let one = rest there in
        record {
          earlier = event ∷ one.earlier;
          event = one.event;
          later = one.later;
          among = ap (λ (es : List PathEvent). event ∷ es) one.among;
          begins = one.begins;
          decided = one.decided;
        }
