-- Where the blocks of sessions come from.

use Rattle.std.proofs.Common.{◌≡◌, ℕ, suc, ◌+◌, ◌<◌, ◌≤◌, Bool, true, false, List, [], ◌∷◌, ◌++◌, map, Option, None, Some, Result, Ok, Err, refl, sym, ◌∙◌, ap, arith, subst, ◌⊎◌, inl, inr, if◌then◌else◌}
use Rattle.std.specs.List.{AllByRecursion, slice_get}
use Rattle.ltp_segment.specs.Values.{SegmentValue}
use Rattle.ltp_session.specs.Engine.{EngineStep, SubmitFault, UpValue}
use Rattle.ltp_laws.specs.View.{IsIn}
use Rattle.translate.specs.declared.refused.Refused.{Refused}
use Rattle.translate.specs.Refusals.{first_that_holds}
use Rattle.gate_cases.specs.declared.case.GateCase.{GateCase}
use Rattle.gate_cases.specs.declared.case.GateCase.TheVariants as cases
use Rattle.gate_cases.specs.declared.case.Room.{Room}
use Rattle.gate_cases.specs.declared.face.Face.{Face}
use Rattle.gate_cases.specs.declared.face.Face.TheVariants as faces
use Rattle.gate_cases.specs.declared.judged.Judged.{Judged}
use Rattle.gate_cases.specs.declared.report.AskedReport.{AskedReport}
use Rattle.gate_cases.specs.Faces.{other_of, octets_at}
use Rattle.gate_cases.specs.Blocks.{Arrival, Found, one, bad, found_at}
use Rattle.gate_cases.specs.Passage.{passage, pieces_on}
use Rattle.gate_cases.specs.Cases.{untranslated, case_of, pieces_if, judgement_of, judged, or_passed}
use Rattle.gate_cases.specs.Bundles.{status_bundle}
use Rattle.gateway_core.specs.Gate.{Gate, GateSetup, at_face, does_at, hears_at, submission_at}
use Rattle.gateway_core.specs.Gate.{sends_at, in_turn, judged_at, is_unreported, passes_at}
use Rattle.gateway_core.specs.Gate.{arrives_at, room_of}
use Rattle.path_laws.specs.declared.effects.UpAt.{UpAt}
use Rattle.path_laws.specs.declared.places.PathEnd.{PathEnd}
use Rattle.path_laws.specs.declared.places.PathEnd.TheVariants as ends
use Rattle.path_laws.specs.declared.places.Place.{Place}
use Rattle.path_laws.specs.Places.{face_of, end_of, node_place, face_place, across, other_path_end, Stand, at_node, at_gate, stand_of}
use Rattle.path_laws.specs.Path.{PathSetup, Path, SentFrom, PathEvent, sends, delivers, clock_shows, at_path_end, gate_effects, sends_block, comes_to, delivers_if, path_step}
use Rattle.path_laws.specs.Log.{Begun, Origin, a_send, a_piece, a_report, begun_unless, begun_by, pieces_begun, report_begun, decided_begun, passed_begun, come_begun, delivered_begun, begun_at, begun_in, ups_in}
use Rattle.path_laws.specs.Laws.{IsAsSent, IsSameUp, IsSameNumber, IsSameOrigin, NoTwo, IsSent, IsPieceOf, IsReportOn, ComesFrom, IsReceivedAt}
use Rattle.path_laws.specs.Path.{up_from}
use Rattle.path_laws.proofs.ChunkLemmas.{begun_as}
use Rattle.path_laws.proofs.StepLemmas.{gate-ups, gate-ups-then}
use Rattle.path_laws.proofs.LogLemmas.{in-left, in-right, all-in, all-of, all-more, no-two-left, no-two-right, no-two-apart, no-two-more}

-- ---- what is known where a session is begun

-- the block that came at a face in a session of an end
abbrev pub came_up : PathEnd → ℕ → List ℕ → UpAt
came_up end n body = record { place = face_place (face_of end); session = n; body = body }

pub record CamePiece (s : PathSetup) (ups : List UpAt) (end : PathEnd) (n i : ℕ) (block : List ℕ) : Type 0 where
  pub body : List ℕ
  pub came : IsIn (came_up end n body) ups
  pub moment : ℕ
  pub room : Room
  pub piece : slice_get (judged (face_of end) body moment s.gate.cut room).pieces i ≡ Some block

pub record CameReport (s : PathSetup) (ups : List UpAt) (end : PathEnd) (n : ℕ) (block : List ℕ) : Type 0 where
  pub body : List ℕ
  pub came : IsIn (came_up end n body) ups
  pub moment : ℕ
  pub room : Room
  pub asked : AskedReport
  pub asks : (judged (face_of end) body moment s.gate.cut room).report ≡ Some asked
  pub number : ℕ
  pub spelled : block ≡ status_bundle s.gate.gate number moment asked

abbrev pub Tagged : PathSetup → List UpAt → Origin → Place → ℕ → List ℕ → Type 0
Tagged s ups (a_send end n) place session block = (place ≡ node_place end) × (session ≡ n)
Tagged s ups (a_piece end n i) place session block = (place ≡ face_place (other_of (face_of end))) × CamePiece s ups end n i block
Tagged s ups (a_report end n) place session block = (place ≡ face_place (face_of end)) × CameReport s ups end n block

abbrev pub IsTagged : PathSetup → List UpAt → Begun → Type 0
IsTagged s ups b = Tagged s ups b.origin b.place b.session b.block

-- more blocks may have come
tagged-more : (s : PathSetup) (ups vs : List UpAt) → ((u : UpAt) → IsIn u ups → IsIn u vs) → (origin : Origin) (place : Place) (session : ℕ) (block : List ℕ)
    → Tagged s ups origin place session block → Tagged s vs origin place session block
tagged-more s ups vs more (a_send end n) place session block t = t
tagged-more s ups vs more (a_piece end n i) place session block t =
    let p = t.1 in (t.0, record { body = p.body; came = more (came_up end n p.body) p.came; moment = p.moment; room = p.room; piece = p.piece })
tagged-more s ups vs more (a_report end n) place session block t =
    let p = t.1 in (t.0, record { body = p.body; came = more (came_up end n p.body) p.came; moment = p.moment; room = p.room; asked = p.asked; asks = p.asks; number = p.number; spelled = p.spelled })

all-tagged-more : (s : PathSetup) (ups vs : List UpAt) → ((u : UpAt) → IsIn u ups → IsIn u vs) → (begun : List Begun) → AllByRecursion (IsTagged s ups) begun → AllByRecursion (IsTagged s vs) begun
all-tagged-more s ups vs more [] all = tt
all-tagged-more s ups vs more (b ∷ begun) all = (tagged-more s ups vs more b.origin b.place b.session b.block all.0, all-tagged-more s ups vs more begun all.1)

-- of what came in different sessions no origin is one
apart : (s : PathSetup) (ups vs : List UpAt) (bs cs : List Begun) → AllByRecursion (IsTagged s ups) bs → AllByRecursion (IsTagged s vs) cs
    → NoTwo IsSameUp (ups ++ vs) → NoTwo IsSameNumber (bs ++ cs) → (b c : Begun) → IsIn b bs → IsIn c cs → IsSameOrigin b c → ⊥
apart s ups vs bs cs tagged_bs tagged_cs once numbers b c in_bs in_cs same =
    by b.origin (all-in (IsTagged s ups) bs tagged_bs b in_bs)
    (subst (λ o. Tagged s vs o c.place c.session c.block) (sym same) (all-in (IsTagged s vs) cs tagged_cs c in_cs))
  where
    by : (origin : Origin) → Tagged s ups origin b.place b.session b.block → Tagged s vs origin c.place c.session c.block → ⊥
    by (a_send end n) t v = no-two-apart IsSameNumber bs cs numbers b c in_bs in_cs (record { place = t.0 ∙ sym v.0; session = t.1 ∙ sym v.1 })
    by (a_piece end n i) t v = no-two-apart IsSameUp ups vs once (came_up end n t.1.body) (came_up end n v.1.body) t.1.came v.1.came (record { place = refl; session = refl })
    by (a_report end n) t v = no-two-apart IsSameUp ups vs once (came_up end n t.1.body) (came_up end n v.1.body) t.1.came v.1.came (record { place = refl; session = refl })

-- ---- a block at the gate

pub face-end : (face : Face) → face_of (end_of face) ≡ face
face-end faces.Old = refl
face-end faces.New = refl

unless-all : (P : Begun → Type 0) (b : Begun) (r : Result EngineStep SubmitFault) → P b → AllByRecursion P (begun_unless b r)
unless-all P b (Ok step) holds = (holds, tt)
unless-all P b (Err fault) holds = tt

no-two-unless : (R : Begun → Begun → Type 0) (b : Begun) (r : Result EngineStep SubmitFault) → NoTwo R (begun_unless b r)
no-two-unless R b (Ok step) = (tt, tt)
no-two-unless R b (Err fault) = tt

-- pieces from the i-th on
pub pieces-all : (P : Begun → Type 0) (s : GateSetup) (to : Face) (now : ℕ) (end : PathEnd) (n i : ℕ) (pieces : List (List ℕ)) (g : Gate)
    → ((k : ℕ) (piece : List ℕ) (session : ℕ) → slice_get pieces k ≡ Some piece → P (begun_as (face_place to) session piece (a_piece end n (i + k))))
    → AllByRecursion P (pieces_begun s to now end n i pieces g)
unfolding pieces_begun
pieces-all P s to now end n i [] g each = tt
pieces-all P s to now end n i (piece ∷ pieces) g each =
    all-more P (begun_by s to now piece (a_piece end n i) g) (pieces_begun s to now end n (i + 1) pieces (sends_at s to now piece g).gate)
    (unless-all P (begun_as (face_place to) (at_face g.engines to).next piece (a_piece end n i)) (submission_at s to now piece g)
    (subst (λ j. P (begun_as (face_place to) (at_face g.engines to).next piece (a_piece end n j))) (plus_none i) (each 0 piece (at_face g.engines to).next refl)))
    (pieces-all P s to now end n (i + 1) pieces (sends_at s to now piece g).gate
    (λ k x session is. subst (λ j. P (begun_as (face_place to) session x (a_piece end n j))) (plus_one i k) (each (suc k) x session is)))
  where
    plus_none : (i : ℕ) → i + 0 ≡ i
    plus_none i = omega arith

    plus_one : (i k : ℕ) → i + suc k ≡ (i + 1) + k
    plus_one i k = omega arith

record IsFrom (end : PathEnd) (n i : ℕ) (b : Begun) : Type 0 where
  j : ℕ
  later : i ≤ j
  is : b.origin ≡ a_piece end n j

pieces-from : (s : GateSetup) (to : Face) (now : ℕ) (end : PathEnd) (n i : ℕ) (pieces : List (List ℕ)) (g : Gate)
    → AllByRecursion (IsFrom end n i) (pieces_begun s to now end n i pieces g)
pieces-from s to now end n i pieces g =
    pieces-all (IsFrom end n i) s to now end n i pieces g (λ k piece session is. record { j = i + k; later = more i k; is = refl })
  where
    more : (i k : ℕ) → i ≤ i + k
    more i k = omega arith

other-piece : (end : PathEnd) (n i j : ℕ) → i < j → a_piece end n i ≡ a_piece end n j → ⊥
other-piece end n i j less same = let index : i ≡ j = cc in absurd (omega arith)

other-kind : (end : PathEnd) (n i : ℕ) → a_piece end n i ≡ a_report end n → ⊥
other-kind end n i same = absurd (cc)

unless-in : (b c : Begun) (r : Result EngineStep SubmitFault) → IsIn c (begun_unless b r) → b ≡ c
unless-in b c (Ok step) (inl same) = same
unless-in b c (Ok step) (inr more) = absurd more
unless-in b c (Err fault) is = absurd is

pieces-once : (s : GateSetup) (to : Face) (now : ℕ) (end : PathEnd) (n i : ℕ) (pieces : List (List ℕ)) (g : Gate)
    → NoTwo IsSameOrigin (pieces_begun s to now end n i pieces g)
unfolding pieces_begun
pieces-once s to now end n i [] g = tt
pieces-once s to now end n i (piece ∷ pieces) g =
    no-two-more IsSameOrigin (begun_by s to now piece (a_piece end n i) g) (pieces_begun s to now end n (i + 1) pieces (sends_at s to now piece g).gate)
    (no-two-unless IsSameOrigin this (submission_at s to now piece g))
    (pieces-once s to now end n (i + 1) pieces (sends_at s to now piece g).gate)
    (λ b c in_b in_c same.
    let from = all-in (IsFrom end n (i + 1)) (pieces_begun s to now end n (i + 1) pieces (sends_at s to now piece g).gate)
    (pieces-from s to now end n (i + 1) pieces (sends_at s to now piece g).gate) c in_c in
    let late : i < from.j = after i from.j from.later in
    other-piece end n i from.j late
    (ap (λ (x : Begun). x.origin) (unless-in this b (submission_at s to now piece g) in_b) ∙ (same ∙ from.is)))
  where
    this : Begun
    this = begun_as (face_place to) (at_face g.engines to).next piece (a_piece end n i)

    after : (i j : ℕ) → i + 1 ≤ j → i < j
    after i j is = omega arith

pub report-all : (P : Begun → Type 0) (s : GateSetup) (at : Face) (now : ℕ) (end : PathEnd) (n : ℕ) (report : Option AskedReport) (g : Gate)
    → ((asked : AskedReport) (session : ℕ) → report ≡ Some asked → P (begun_as (face_place at) session (status_bundle s.gate g.counter now asked) (a_report end n)))
    → AllByRecursion P (report_begun s at now end n report g)
report-all P s at now end n None g each = tt
report-all P s at now end n (Some asked) g each = by (is_unreported at now g) where
  block : List ℕ
  block = status_bundle s.gate g.counter now asked

  by : (t : Bool) → AllByRecursion P (if t then [] else begun_by s at now (status_bundle s.gate g.counter now asked) (a_report end n) (record g { counter = g.counter + 1 }))
  by true = tt
  by false = unless-all P (begun_as (face_place at) (at_face g.engines at).next block (a_report end n)) (submission_at s at now block (record g { counter = g.counter + 1 }))
      (each asked (at_face g.engines at).next refl)

report-once : (s : GateSetup) (at : Face) (now : ℕ) (end : PathEnd) (n : ℕ) (report : Option AskedReport) (g : Gate) → NoTwo IsSameOrigin (report_begun s at now end n report g)
report-once s at now end n None g = tt
report-once s at now end n (Some asked) g = by (is_unreported at now g) where
  block : List ℕ
  block = status_bundle s.gate g.counter now asked

  by : (t : Bool) → NoTwo IsSameOrigin (if t then [] else begun_by s at now (status_bundle s.gate g.counter now asked) (a_report end n) (record g { counter = g.counter + 1 }))
  by true = tt
  by false = no-two-unless IsSameOrigin (begun_as (face_place at) (at_face g.engines at).next block (a_report end n)) (submission_at s at now block (record g { counter = g.counter + 1 }))

-- what is decided about a block
decided-tagged : (s : PathSetup) (face : Face) (now n : ℕ) (body : List ℕ) (g h : Gate)
    → AllByRecursion (IsTagged s (up_from (face_place face) (record { session = n; body = body }) ∷ [])) (decided_begun s.gate face now n (judged_at s.gate face now body h) g)
decided-tagged s face now n body g h =
    all-more (IsTagged s ups) (pieces_begun s.gate (other_of face) now (end_of face) n 0 j.pieces g) (report_begun s.gate face now (end_of face) n j.report (in_turn (sends_at s.gate (other_of face) now) j.pieces g).gate)
    (pieces-all (IsTagged s ups) s.gate (other_of face) now (end_of face) n 0 j.pieces g
    (λ k piece session is. (
      ap (λ f. face_place (other_of f)) (sym (face-end face)),
      record {
        body = body;
        came = subst (λ f. IsIn (record { place = face_place f; session = n; body = body }) ups) (sym (face-end face)) (inl refl);
        moment = now;
        room = room_of (at_face h.engines (other_of face));
        piece = subst (λ i. slice_get (judged (face_of (end_of face)) body now s.gate.cut (room_of (at_face h.engines (other_of face)))).pieces i ≡ Some piece) (sym (none_plus k))
            (subst (λ f. slice_get (judged f body now s.gate.cut (room_of (at_face h.engines (other_of face)))).pieces k ≡ Some piece) (sym (face-end face)) is);
      },
    )))
    (report-all (IsTagged s ups) s.gate face now (end_of face) n j.report (in_turn (sends_at s.gate (other_of face) now) j.pieces g).gate
    (λ asked session is. (
      ap face_place (sym (face-end face)),
      record {
        body = body;
        came = subst (λ f. IsIn (record { place = face_place f; session = n; body = body }) ups) (sym (face-end face)) (inl refl);
        moment = now;
        room = room_of (at_face h.engines (other_of face));
        asked = asked;
        asks = subst (λ f. (judged f body now s.gate.cut (room_of (at_face h.engines (other_of face)))).report ≡ Some asked) (sym (face-end face)) is;
        number = (in_turn (sends_at s.gate (other_of face) now) j.pieces g).gate.counter;
        spelled = refl;
      },
    )))
  where
    none_plus : (k : ℕ) → 0 + k ≡ k
    none_plus k = omega arith

    j : Judged
    j = judged_at s.gate face now body h

    ups : List UpAt
    ups = up_from (face_place face) (record { session = n; body = body }) ∷ []

decided-once : (s : GateSetup) (face : Face) (now n : ℕ) (j : Judged) (g : Gate) → NoTwo IsSameOrigin (decided_begun s face now n j g)
decided-once s face now n j g =
    no-two-more IsSameOrigin (pieces_begun s (other_of face) now (end_of face) n 0 j.pieces g) (report_begun s face now (end_of face) n j.report h)
    (pieces-once s (other_of face) now (end_of face) n 0 j.pieces g) (report-once s face now (end_of face) n j.report h)
    (λ b c in_b in_c same.
    let from = all-in (IsFrom (end_of face) n 0) (pieces_begun s (other_of face) now (end_of face) n 0 j.pieces g) (pieces-from s (other_of face) now (end_of face) n 0 j.pieces g) b in_b in
    let report = all-in (λ (x : Begun). x.origin ≡ a_report (end_of face) n) (report_begun s face now (end_of face) n j.report h)
    (report-all (λ (x : Begun). x.origin ≡ a_report (end_of face) n) s face now (end_of face) n j.report h (λ asked session is. refl)) c in_c in
    other-kind (end_of face) n from.j (sym from.is ∙ (same ∙ report)))
  where
    h : Gate
    h = (in_turn (sends_at s (other_of face) now) j.pieces g).gate

passed-tagged : (s : PathSetup) (face : Face) (now : ℕ) (ups : List UpValue) (g : Gate)
    → AllByRecursion (IsTagged s (map (up_from (face_place face)) ups)) (passed_begun s.gate face now ups g)
unfolding passed_begun
passed-tagged s face now [] g = tt
passed-tagged s face now (up ∷ ups) g =
    all-more (IsTagged s all) (decided_begun s.gate face now up.session (judged_at s.gate face now up.body g) g) (passed_begun s.gate face now ups (passes_at s.gate face now up g).gate)
    (all-tagged-more s (first ∷ []) all (λ u is. in-left u (first ∷ []) (map (up_from (face_place face)) ups) is) (decided_begun s.gate face now up.session (judged_at s.gate face now up.body g) g)
    (decided-tagged s face now up.session up.body g g))
    (all-tagged-more s (map (up_from (face_place face)) ups) all (λ u is. inr is) (passed_begun s.gate face now ups (passes_at s.gate face now up g).gate)
    (passed-tagged s face now ups (passes_at s.gate face now up g).gate))
  where
    first : UpAt
    first = up_from (face_place face) up

    all : List UpAt
    all = up_from (face_place face) up ∷ map (up_from (face_place face)) ups

passed-once : (s : PathSetup) (face : Face) (now : ℕ) (ups : List UpValue) (g : Gate) → NoTwo IsSameUp (map (up_from (face_place face)) ups)
    → NoTwo IsSameNumber (passed_begun s.gate face now ups g) → NoTwo IsSameOrigin (passed_begun s.gate face now ups g)
unfolding passed_begun
passed-once s face now [] g once numbers = tt
passed-once s face now (up ∷ ups) g once numbers =
    no-two-more IsSameOrigin this rest
    (decided-once s.gate face now up.session (judged_at s.gate face now up.body g) g)
    (passed-once s face now ups (passes_at s.gate face now up g).gate once.1 (no-two-right IsSameNumber this rest numbers))
    (apart s (up_from (face_place face) up ∷ []) (map (up_from (face_place face)) ups) this rest
    (decided-tagged s face now up.session up.body g g) (passed-tagged s face now ups (passes_at s.gate face now up g).gate) once numbers)
  where
    this : List Begun
    this = decided_begun s.gate face now up.session (judged_at s.gate face now up.body g) g

    rest : List Begun
    rest = passed_begun s.gate face now ups (passes_at s.gate face now up g).gate

-- ---- an event

-- the blocks that a face's engine hands up are among those of the step
arrived-ups : (s : PathSetup) (w : Path) (face : Face) (segment : SegmentValue)
    → (comes_to s w (at_gate face) segment).effects.ups
    ≡ map (up_from (face_place face)) (hears_at s.gate face w.gate (Ok segment) w.now).effects.ups
    ++ (gate_effects (in_turn (passes_at s.gate face w.now) (hears_at s.gate face w.gate (Ok segment) w.now).effects.ups (does_at face w.gate (hears_at s.gate face w.gate (Ok segment) w.now)).gate).effects).ups
unfolding arrives_at
arrived-ups s w face segment =
    gate-ups-then (does_at face w.gate heard) (in_turn (passes_at s.gate face w.now) heard.effects.ups)
    ∙ ap (λ us. us ++ (gate_effects (in_turn (passes_at s.gate face w.now) heard.effects.ups (does_at face w.gate heard).gate).effects).ups) (gate-ups face heard.effects.ups)
  where
    heard : EngineStep
    heard = hears_at s.gate face w.gate (Ok segment) w.now

come-tagged : (s : PathSetup) (w : Path) (stand : Stand) (segment : SegmentValue) → AllByRecursion (IsTagged s (comes_to s w stand segment).effects.ups) (come_begun s w stand segment)
come-tagged s w (at_node end) segment = tt
come-tagged s w (at_gate face) segment =
    subst (λ us. AllByRecursion (IsTagged s us) (come_begun s w (at_gate face) segment)) (sym (arrived-ups s w face segment))
    (all-tagged-more s here (here ++ more) (λ u is. in-left u here more is) (come_begun s w (at_gate face) segment)
    (passed-tagged s face w.now heard.effects.ups (does_at face w.gate heard).gate))
  where
    heard : EngineStep
    heard = hears_at s.gate face w.gate (Ok segment) w.now

    here : List UpAt
    here = map (up_from (face_place face)) (hears_at s.gate face w.gate (Ok segment) w.now).effects.ups

    more : List UpAt
    more = (gate_effects (in_turn (passes_at s.gate face w.now) (hears_at s.gate face w.gate (Ok segment) w.now).effects.ups (does_at face w.gate (hears_at s.gate face w.gate (Ok segment) w.now)).gate).effects).ups

come-once : (s : PathSetup) (w : Path) (stand : Stand) (segment : SegmentValue) → NoTwo IsSameUp (comes_to s w stand segment).effects.ups
    → NoTwo IsSameNumber (come_begun s w stand segment) → NoTwo IsSameOrigin (come_begun s w stand segment)
come-once s w (at_node end) segment once numbers = tt
come-once s w (at_gate face) segment once numbers =
    passed-once s face w.now heard.effects.ups (does_at face w.gate heard).gate
    (no-two-left IsSameUp here more (subst (λ us. NoTwo IsSameUp us) (arrived-ups s w face segment) once)) numbers
  where
    heard : EngineStep
    heard = hears_at s.gate face w.gate (Ok segment) w.now

    here : List UpAt
    here = map (up_from (face_place face)) (hears_at s.gate face w.gate (Ok segment) w.now).effects.ups

    more : List UpAt
    more = (gate_effects (in_turn (passes_at s.gate face w.now) (hears_at s.gate face w.gate (Ok segment) w.now).effects.ups (does_at face w.gate (hears_at s.gate face w.gate (Ok segment) w.now)).gate).effects).ups

delivered-tagged : (s : PathSetup) (w : Path) (got : Option SentFrom) → AllByRecursion (IsTagged s (delivers_if s w got).effects.ups) (delivered_begun s w got)
delivered-tagged s w None = tt
delivered-tagged s w (Some d) = come-tagged s w (stand_of (across d.from)) d.segment

delivered-once : (s : PathSetup) (w : Path) (got : Option SentFrom) → NoTwo IsSameUp (delivers_if s w got).effects.ups
    → NoTwo IsSameNumber (delivered_begun s w got) → NoTwo IsSameOrigin (delivered_begun s w got)
delivered-once s w None once numbers = tt
delivered-once s w (Some d) once numbers = come-once s w (stand_of (across d.from)) d.segment once numbers

step-tagged : (s : PathSetup) (w : Path) (event : PathEvent) → AllByRecursion (IsTagged s (path_step s w event).effects.ups) (begun_at s w event)
unfolding path_step
step-tagged s w (sends end block) =
    unless-all (IsTagged s (path_step s w (sends end block)).effects.ups) (begun_as (node_place end) (at_path_end w.nodes end).next block (a_send end (at_path_end w.nodes end).next)) (sends_block s w end block) (refl, refl)
step-tagged s w (delivers k) = delivered-tagged s w (slice_get w.sent k)
step-tagged s w (clock_shows now) = tt

step-once : (s : PathSetup) (w : Path) (event : PathEvent) → NoTwo IsSameUp (path_step s w event).effects.ups
    → NoTwo IsSameNumber (begun_at s w event) → NoTwo IsSameOrigin (begun_at s w event)
unfolding path_step
step-once s w (sends end block) once numbers = no-two-unless IsSameOrigin (begun_as (node_place end) (at_path_end w.nodes end).next block (a_send end (at_path_end w.nodes end).next)) (sends_block s w end block)
step-once s w (delivers k) once numbers = delivered-once s w (slice_get w.sent k) once numbers
step-once s w (clock_shows now) once numbers = tt

-- ---- a run

pub run-tagged : (s : PathSetup) (w : Path) (events : List PathEvent) → AllByRecursion (IsTagged s (ups_in s w events)) (begun_in s w events)
unfolding ups_in begun_in
run-tagged s w [] = tt
run-tagged s w (event ∷ events) =
    let ups : List UpAt = (path_step s w event).effects.ups in
    let more : List UpAt = ups_in s (path_step s w event).path events in
    all-more (IsTagged s (ups ++ more)) (begun_at s w event) (begun_in s (path_step s w event).path events)
    (all-tagged-more s ups (ups ++ more) (λ u is. in-left u ups more is) (begun_at s w event) (step-tagged s w event))
    (all-tagged-more s more (ups ++ more) (λ u is. in-right u ups more is) (begun_in s (path_step s w event).path events) (run-tagged s (path_step s w event).path events))

pub origins-once : (s : PathSetup) (w : Path) (events : List PathEvent) → NoTwo IsSameUp (ups_in s w events) → NoTwo IsSameNumber (begun_in s w events)
    → NoTwo IsSameOrigin (begun_in s w events)
unfolding ups_in begun_in
origins-once s w [] once numbers = tt
origins-once s w (event ∷ events) once numbers =
    let ups : List UpAt = (path_step s w event).effects.ups in
    let more : List UpAt = ups_in s (path_step s w event).path events in
    let now : List Begun = begun_at s w event in
    let later : List Begun = begun_in s (path_step s w event).path events in
    no-two-more IsSameOrigin now later
    (step-once s w event (no-two-left IsSameUp ups more once) (no-two-left IsSameNumber now later numbers))
    (origins-once s (path_step s w event).path events (no-two-right IsSameUp ups more once) (no-two-right IsSameNumber now later numbers))
    (apart s ups more now later (step-tagged s w event) (run-tagged s (path_step s w event).path events) once numbers)

-- ---- what a piece is

first-map : (refusals : List (Refused × Bool)) (more : List (GateCase × Bool)) (cause : Refused) → first_that_holds refusals ≡ Some cause
    → first_that_holds (map untranslated refusals ++ more) ≡ Some (cases.Untranslated cause)
first-map [] more cause is = absurd (cc)
first-map ((c, true) ∷ refusals) more cause is = let same : c ≡ cause = cc in ap (λ x. Some (cases.Untranslated x)) same
first-map ((c, false) ∷ refusals) more cause is = first-map refusals more cause is

got-none : (i : ℕ) (block : List ℕ) → slice_get [] i ≡ Some block → ⊥
got-none i block is = absurd (cc)

if-goes : (case : GateCase) (pieces : List (List ℕ)) (i : ℕ) (block : List ℕ) → slice_get (pieces_if case pieces) i ≡ Some block → slice_get pieces i ≡ Some block
if-goes (cases.BadBundle at cause) pieces i block is = absurd (got-none i block is)
if-goes (cases.Untranslated cause) pieces i block is = absurd (got-none i block is)
if-goes cases.Expired pieces i block is = absurd (got-none i block is)
if-goes cases.HopLimit pieces i block is = absurd (got-none i block is)
if-goes cases.Storage pieces i block is = absurd (got-none i block is)
if-goes cases.Passed pieces i block is = is

record Piece (face : Face) (cut : ℕ) (body block : List ℕ) (i : ℕ) : Type 0 where
  arrival : Arrival
  reads : found_at face body ≡ one arrival
  translated : first_that_holds arrival.refusals ≡ None
  piece : slice_get (map (octets_at (other_of face)) (pieces_on (passage arrival.full) cut)) i ≡ Some block

piece-of : (face : Face) (now cut : ℕ) (room : Room) (body block : List ℕ) (i : ℕ) → slice_get (judged face body now cut room).pieces i ≡ Some block → Piece face cut body block i
unfolding judged case_of
piece-of face now cut room body block i is = by (found_at face body) refl is where
  by : (found : Found) → found_at face body ≡ found → slice_get (judgement_of face found cut (case_of face found now cut room)).pieces i ≡ Some block → Piece face cut body block i
  by (bad at cause) reads is = absurd (got-none i block is)
  by (one arrival) reads is = at_first (first_that_holds arrival.refusals) refl where
    goes : slice_get (map (octets_at (other_of face)) (pieces_on (passage arrival.full) cut)) i ≡ Some block
    goes = if-goes (case_of face (one arrival) now cut room) (map (octets_at (other_of face)) (pieces_on (passage arrival.full) cut)) i block is

    at_first : (first : Option Refused) → first_that_holds arrival.refusals ≡ first → Piece face cut body block i
    at_first None none = record { arrival = arrival; reads = reads; translated = none; piece = goes }
    at_first (Some cause) some =
        absurd (got-none i block (subst (λ c. slice_get (pieces_if c (map (octets_at (other_of face)) (pieces_on (passage arrival.full) cut))) i ≡ Some block)
        (ap or_passed (first-map arrival.refusals _ cause some)) is))

-- ---- where a block comes from

across-face : (end : PathEnd) → across (face_place (face_of end)) ≡ node_place end
across-face ends.Old = refl
across-face ends.New = refl

sent-of : (begun : List Begun) (ups : List UpAt) (end : PathEnd) (n : ℕ) (body : List ℕ) → AllByRecursion (IsAsSent begun) ups → IsIn (came_up end n body) ups → IsSent begun end n body
sent-of begun ups end n body all came =
    let sent = all-in (IsAsSent begun) ups all (came_up end n body) came in
    record { send = sent.session; among = sent.among; place = sent.place ∙ across-face end; number = sent.number; block = sent.whole }

comes-from : (s : PathSetup) (begun : List Begun) (ups : List UpAt) → AllByRecursion (IsAsSent begun) ups → (origin : Origin) (place : Place) (session : ℕ) (block : List ℕ)
    → Tagged s ups origin place session block → ComesFrom s begun ups origin place block
comes-from s begun ups all (a_send end n) place session block t = t.0
comes-from s begun ups all (a_piece end n i) place session block t =
    let p = t.1 in
    let piece = piece-of (face_of end) p.moment s.gate.cut p.room p.body block i p.piece in (
      t.0,
      record {
        bundle = p.body;
        sent = sent-of begun ups end n p.body all p.came;
        arrival = piece.arrival;
        reads = piece.reads;
        translated = piece.translated;
        piece = piece.piece;
      },
    )
comes-from s begun ups all (a_report end n) place session block t =
    let p = t.1 in (
      t.0,
      record {
        bundle = p.body;
        sent = sent-of begun ups end n p.body all p.came;
        came = p.came;
        moment = p.moment;
        room = p.room;
        asked = p.asked;
        asks = p.asks;
        number = p.number;
        spelled = p.spelled;
      },
    )

-- ---- what an end receives

no-node : (end other : PathEnd) → face_place (face_of end) ≡ node_place other → ⊥
no-node ends.Old ends.Old is = absurd (cc)
no-node ends.Old ends.New is = absurd (cc)
no-node ends.New ends.Old is = absurd (cc)
no-node ends.New ends.New is = absurd (cc)

its-other : (end from : PathEnd) → face_place (face_of end) ≡ face_place (other_of (face_of from)) → from ≡ other_path_end end
its-other ends.Old ends.Old is = absurd (cc)
its-other ends.Old ends.New is = refl
its-other ends.New ends.Old is = refl
its-other ends.New ends.New is = absurd (cc)

its-own : (end from : PathEnd) → face_place (face_of end) ≡ face_place (face_of from) → from ≡ end
its-own ends.Old ends.Old is = refl
its-own ends.Old ends.New is = absurd (cc)
its-own ends.New ends.Old is = absurd (cc)
its-own ends.New ends.New is = refl

across-node : (end : PathEnd) → across (node_place end) ≡ face_place (face_of end)
across-node ends.Old = refl
across-node ends.New = refl

received : (s : PathSetup) (begun : List Begun) (ups : List UpAt) → AllByRecursion (IsAsSent begun) ups → AllByRecursion (IsTagged s ups) begun
    → (u : UpAt) → IsIn u ups → IsReceivedAt s begun ups u
received s begun ups all tagged u among end is =
    let sent = all-in (IsAsSent begun) ups all u among in
    let b : Begun = sent.session in
    let place : b.place ≡ face_place (face_of end) = sent.place ∙ (ap across is ∙ across-node end) in
    let from : ComesFrom s begun ups b.origin (face_place (face_of end)) u.body =
    subst (λ p. ComesFrom s begun ups b.origin p u.body) place
    (subst (λ body. ComesFrom s begun ups b.origin b.place body) sent.whole
    (comes-from s begun ups all b.origin b.place b.session b.block (all-in (IsTagged s ups) begun tagged b sent.among))) in
    record { session = b; among = sent.among; place = place; number = sent.number; block = sent.whole; is_one = by b.origin from }
  where
    by : (origin : Origin) → ComesFrom s begun ups origin (face_place (face_of end)) u.body
        → ((n : ℕ) × (i : ℕ) × (origin ≡ a_piece (other_path_end end) n i) × IsPieceOf s begun (other_path_end end) n i u.body)
        ⊎ ((n : ℕ) × (origin ≡ a_report end n) × IsReportOn s begun ups end n u.body)
    by (a_send from n) comes = absurd (no-node end from comes)
    by (a_piece from n i) comes =
        let same : from ≡ other_path_end end = its-other end from comes.0 in
        inl (n, i, ap (λ e. a_piece e n i) same, subst (λ e. IsPieceOf s begun e n i u.body) same comes.1)
    by (a_report from n) comes =
        let same : from ≡ end = its-own end from comes.0 in
        inr (n, ap (λ e. a_report e n) same, subst (λ e. IsReportOn s begun ups e n u.body) same comes.1)

pub all-received : (s : PathSetup) (begun : List Begun) (ups : List UpAt) → AllByRecursion (IsAsSent begun) ups → AllByRecursion (IsTagged s ups) begun
    → AllByRecursion (IsReceivedAt s begun ups) ups
all-received s begun ups all tagged = all-of (IsReceivedAt s begun ups) ups (λ u is. received s begun ups all tagged u is)
