-- With an event the sessions of a face go on from what they heard by the blocks that began there.

use Rattle.std.proofs.Common.{◌≡◌, ℕ, ◌+◌, ◌<◌, Bool, true, false, if◌then◌else◌, List, [], ◌∷◌, ◌++◌, length, Option, Some, None, Result, refl, subst, ◌⊎◌, inl, inr}
use Rattle.std.specs.List.{AllByRecursion}
use Rattle.ltp_segment.specs.declared.fault.SegmentCause.{SegmentCause}
use Rattle.ltp_segment.specs.Values.{SegmentValue}
use Rattle.ltp_session.specs.Engine.{UpValue}
use Rattle.gate_cases.specs.declared.face.Face.{Face}
use Rattle.gate_cases.specs.declared.face.Face.TheVariants.{Old, New}
use Rattle.gate_cases.specs.declared.report.AskedReport.{AskedReport}
use Rattle.gate_cases.specs.Faces.{other_of}
use Rattle.gate_log.specs.Subjects.{subject_of}
use Rattle.block_types.specs.declared.losing.LeftOut.{LeftOut}
use Rattle.gateway_core.specs.Gate.{if_same, RoutedValue, at_face}
use Rattle.ltp_laws.specs.View.{IsIn}
use Rattle.ltp_laws.proofs.ListLemmas.{all-append}
use Rattle.peer_cases.specs.declared.pieces.SizedPiece.{SizedPiece}
use Rattle.peer_cases.specs.declared.decision.Decision.{Decision}
use Rattle.peer_cases.specs.Arrivals.{Came}
use Rattle.peer_cases.specs.Cases.{is_unreported}
use Rattle.peer_cases.specs.Rows.{Item, a_bundle, an_end, came_in, items_of}
use Rattle.peer_sessions.specs.Sessions.{Sessions, SessionsStep, hears, ticks}
use Rattle.peer_gateway.specs.Keys.{PeerSetup}
use Rattle.peer_gateway.specs.Gate.{PeerGate, PeerMoments, PeerStep, and_then, in_turn, room_at, routed_at, stays_so, tells}
use Rattle.peer_gateway.specs.Gate.{told_bundle, told_case, told_end, told_left, told_reported, told_unreported}
use Rattle.peer_gateway.specs.Going.{adds, due, piece_at}
use Rattle.peer_gateway.specs.Steps.{PeerEvent, a_datagram, a_kept_piece, a_tick, adds_all, adds_kept, answers, arrives_peer, arrives_with, decided_at, decides, does, does_at, due_if, has_ended, has_room_at, hears_at, kept_piece, next_if, passes, passes_came, passes_item, report_piece, reports, tells_left, ticks_peer}
use Rattle.gate_records.proofs.ReportLemmas.{IsOther}
use Rattle.peer_session_laws.specs.Own.{IsSomePiece}
use Rattle.peer_session_laws.proofs.SomeLemmas.{IsSome, decided-some, report-some}
use Rattle.peer_session_laws.proofs.OutLemmas.{IsOtherOut, IsOutOf, other-out, routed-out}
use Rattle.peer_session_laws.proofs.GoLemmas.{GoOn, Goes, HasOctets, added-both, go-then, goes-adds, goes-all, goes-both, goes-not, goes-tells, goes-turn, old-passes}

-- ---- a block that came whole

goes-reports : (s : PeerSetup) (m : PeerMoments) (at : Face) (Given : Type 0) (face : Face) (index : Option ℕ) (session : ℕ) (piece : SizedPiece) (g : PeerGate)
    → 0 < length piece.octets → Goes s m at Given g (reports s face m index session piece g)
goes-reports s m at Given face index session piece g some =
    let first = adds s face m true (piece_at m face piece) (record g { counter = g.counter + 1 }) in
    let told = told_reported index session (next_if s face g) in
    let all = goes-adds s m at Given face true (piece_at m face piece) (record g { counter = g.counter + 1 }) (λ given. some) in
    goes-both s m at Given g first (tells face told) (record { sessions = all.sessions; added = all.added; out = all.out })
    (goes-tells s m at Given face told first.gate)

goes-answers : (s : PeerSetup) (m : PeerMoments) (at : Face) (Given : Type 0) (face : Face) (index : Option ℕ) (session : ℕ) (asked : Option AskedReport) (g : PeerGate)
    → Goes s m at Given g (answers s face m index session asked g)
unfolding answers
goes-answers s m at Given face index session None g = goes-not s m at Given g
goes-answers s m at Given face index session (Some asked) g =
    by (is_unreported (room_at (at_face s.keys face) (at_face g.faces face)) (report_piece s m asked g).size m.wall g.counter)
  where
    by : (t : Bool) → Goes s m at Given g (if t then tells face (told_unreported index session) g else reports s face m index session (report_piece s m asked g) g)
    by true = goes-tells s m at Given face (told_unreported index session) g
    by false = goes-reports s m at Given face index session (report_piece s m asked g) g (report-some s.gate g.counter m.wall asked)

goes-left : (s : PeerSetup) (m : PeerMoments) (at : Face) (Given : Type 0) (face : Face) (index : Option ℕ) (session : ℕ) (left : Option LeftOut) (g : PeerGate)
    → Goes s m at Given g (tells_left face index session left g)
goes-left s m at Given face index session None g = goes-not s m at Given g
goes-left s m at Given face index session (Some left) g = goes-tells s m at Given face (told_left index session left) g

goes-pieces : (s : PeerSetup) (m : PeerMoments) (at : Face) (Given : Type 0) (to : Face) (pieces : List SizedPiece) (g : PeerGate)
    → AllByRecursion IsSome pieces → Goes s m at Given g (adds_all s to m pieces g)
unfolding in_turn
goes-pieces s m at Given to [] g all = goes-not s m at Given g
goes-pieces s m at Given to (piece ∷ pieces) g all =
    let first = adds s to m false (piece_at m to piece) g in
    goes-both s m at Given g first (adds_all s to m pieces) (goes-adds s m at Given to false (piece_at m to piece) g (λ given. all.0))
    (goes-pieces s m at Given to pieces first.gate all.1)

goes-decides : (s : PeerSetup) (m : PeerMoments) (at : Face) (Given : Type 0) (face : Face) (index : Option ℕ) (session : ℕ) (d : Decision) (g : PeerGate)
    → AllByRecursion IsSome d.pieces → Goes s m at Given g (decides s face m index session d g)
unfolding decides
goes-decides s m at Given face index session d g all =
    let to = other_of face in
    let first = adds_all s to m d.pieces g in
    let h = first.gate in
    let told = told_case index session d.case (length d.pieces) (next_if s to g) in
    let last = answers s face m index session d.report in
    let left = λ (i : PeerGate). and_then (tells_left face index session d.left i) last in
    let given = tells_left face index session d.left h in
    goes-both s m at Given g first (λ i. and_then (tells face told i) left)
    (goes-pieces s m at Given to d.pieces g all)
    (goes-both s m at Given h (tells face told h) left (goes-tells s m at Given face told h)
    (goes-both s m at Given h given last (goes-left s m at Given face index session d.left h) (goes-answers s m at Given face index session d.report given.gate)))

goes-came : (s : PeerSetup) (m : PeerMoments) (at : Face) (Given : Type 0) (face : Face) (index : Option ℕ) (session : ℕ) (came : Option Came) (g : PeerGate)
    → Goes s m at Given g (passes_came s face m index session came g)
goes-came s m at Given face index session None g = goes-not s m at Given g
goes-came s m at Given face index session (Some came) g =
    goes-decides s m at Given face index session (decided_at s face m came g) g (decided-some s.settings face came m.wall s.cut _)

goes-item : (s : PeerSetup) (m : PeerMoments) (at : Face) (Given : Type 0) (face : Face) (session : ℕ) (item : Item) (g : PeerGate) → Goes s m at Given g (passes_item s face m session item g)
goes-item s m at Given face session (a_bundle index octets) g =
    let bundle = told_bundle (subject_of octets) in
    goes-both s m at Given g (tells face bundle g) (passes_came s face m index session (came_in s.settings face octets))
    (goes-tells s m at Given face bundle g) (goes-came s m at Given face index session (came_in s.settings face octets) g)
goes-item s m at Given face session (an_end index end) g = goes-tells s m at Given face (told_end index session end) g

goes-passes : (s : PeerSetup) (m : PeerMoments) (at : Face) (Given : Type 0) (face : Face) (up : UpValue) (g : PeerGate) → Goes s m at Given g (passes s face m up g)
goes-passes s m at Given face up g = goes-turn s m at Given (passes_item s face m up.session) (goes-item s m at Given face up.session) (items_of face up.body) g

goes-due : (s : PeerSetup) (m : PeerMoments) (at : Face) (Given : Type 0) (face : Face) (ended : Bool) (g : PeerGate) → Goes s m at Given g (due_if ended s m face g)
goes-due s m at Given face true g = goes-all s m at Given face (m.at face) g
goes-due s m at Given face false g = goes-not s m at Given g

-- ---- events

-- the sessions of a face once they heard what comes with an event, before blocks begin
abbrev pub heard : PeerSetup → Face → PeerEvent → PeerMoments → PeerGate → Sessions
heard s at (a_datagram face read) m g =
    if_same face at (hears (at_face s.keys at) (at_face g.faces at).sessions read (m.at at)).sessions (at_face g.faces at).sessions
heard s at a_tick m g = (ticks (at_face s.keys at) (at_face g.faces at).sessions (m.at at)).sessions
heard s at (a_kept_piece face octets came) m g = (at_face g.faces at).sessions

-- what they said then
abbrev pub said : PeerSetup → Face → PeerEvent → PeerMoments → PeerGate → List SegmentValue
said s at (a_datagram face read) m g = if_same face at (hears_at s face g read (m.at face)).effects.out []
said s at a_tick m g = (ticks (at_face s.keys at) (at_face g.faces at).sessions (m.at at)).effects.out
said s at (a_kept_piece face octets came) m g = []

-- From there they have gone on with a step. Each piece that the step added has an octet, where so much is given; and
-- what it sends at the face is what they said, and else no report.
pub record GoesFrom (s : PeerSetup) (m : PeerMoments) (at : Face) (Given : Type 0) (first : Sessions) (heard_out : List SegmentValue) (step : PeerStep) : Type 0 where
  pub sessions : GoOn (at_face s.keys at) (m.at at) at step.effects.begun first (at_face step.gate.faces at).sessions
  pub added : Given → AllByRecursion HasOctets step.effects.added
  pub out : AllByRecursion (IsOutOf at heard_out) step.effects.out

-- once a face's sessions did a step
goes-arrives : (s : PeerSetup) (m : PeerMoments) (at : Face) (Given : Type 0) (face : Face) (step : SessionsStep) (g : PeerGate)
    → GoesFrom s m at Given (at_face (does_at s face g step).gate.faces at).sessions (if_same face at step.effects.out []) (arrives_with s face m g step)
unfolding and_then
goes-arrives s m at Given face step g =
    let first = does_at s face g step in
    let last = due_if (has_ended (at_face g.faces face).sessions step) s m face in
    let second = in_turn (passes s face m) step.effects.ups first.gate in
    let all = goes-both s m at Given first.gate second last (goes-turn s m at Given (passes s face m) (goes-passes s m at Given face) step.effects.ups first.gate)
    (goes-due s m at Given face (has_ended (at_face g.faces face).sessions step) second.gate) in
    let said_out = if_same face at step.effects.out [] in
    record {
      sessions = all.sessions;
      added = all.added;
      out = all-append (IsOutOf at said_out) (routed_at face step.effects.out) _ (routed-out at face step.effects.out) (other-out at said_out _ all.out);
    }

did : (s : PeerSetup) (m : PeerMoments) (at face : Face) (read : Result SegmentValue (ℕ × SegmentCause)) (g : PeerGate)
    → (at_face (does_at s face g (hears_at s face g read (m.at face))).gate.faces at).sessions ≡ heard s at (a_datagram face read) m g
did s m Old Old read g = refl
did s m Old New read g = refl
did s m New Old read g = refl
did s m New New read g = refl

-- what is none of a face's is none of more
more-out : (at : Face) (out : List RoutedValue) (said_out : List SegmentValue) → AllByRecursion (IsOutOf at []) out → AllByRecursion (IsOutOf at said_out) out
more-out at [] said_out all = tt
more-out at (r ∷ out) said_out all = (λ here. either (all.0 here), more-out at out said_out all.1) where
  either : IsOther r.segment.content ⊎ IsIn r.segment [] → IsOther r.segment.content ⊎ IsIn r.segment said_out
  either (inl is) = inl is
  either (inr among) = absurd among

-- of both faces that tick
out-ticks : (at : Face) (old new : List SegmentValue) (xs ys : List RoutedValue) → AllByRecursion IsOtherOut xs → AllByRecursion IsOtherOut ys
    → AllByRecursion (IsOutOf at (at_face (old, new) at)) ((routed_at Old old ++ xs) ++ (routed_at New new ++ ys))
out-ticks at old new xs ys first more =
    let said_out = at_face (old, new) at in
    all-append (IsOutOf at said_out) (routed_at Old old ++ xs) (routed_at New new ++ ys)
    (all-append (IsOutOf at said_out) (routed_at Old old) xs (by_old at) (other-out at said_out xs first))
    (all-append (IsOutOf at said_out) (routed_at New new) ys (by_new at) (other-out at said_out ys more))
  where
    by_old : (at : Face) → AllByRecursion (IsOutOf at (at_face (old, new) at)) (routed_at Old old)
    by_old Old = routed-out Old Old old
    by_old New = more-out New (routed_at Old old) new (routed-out New Old old)

    by_new : (at : Face) → AllByRecursion (IsOutOf at (at_face (old, new) at)) (routed_at New new)
    by_new New = routed-out New New new
    by_new Old = more-out Old (routed_at New new) old (routed-out Old New new)

-- both faces tick, the old one first
goes-ticks : (s : PeerSetup) (m : PeerMoments) (at : Face) (Given : Type 0) (g : PeerGate) → GoesFrom s m at Given (heard s at a_tick m g) (said s at a_tick m g) (ticks_peer s m g)
unfolding ticks_peer and_then
goes-ticks s m Old Given g =
    let told = (does_at s Old g (ticks s.keys.0 g.faces.0.sessions (m.at Old))).gate in
    let one = due s m Old told in
    let later = (does_at s New one.gate (ticks s.keys.1 one.gate.faces.1.sessions (m.at New))).gate in
    let two = due s m New later in
    let first = goes-all s m Old Given Old (m.at Old) told in
    let more = goes-all s m Old Given New (m.at New) later in
    record {
      sessions = go-then s.keys.0 (m.at Old) Old one.effects.begun two.effects.begun told.faces.0.sessions one.gate.faces.0.sessions two.gate.faces.0.sessions
          first.sessions more.sessions;
      added = λ given. added-both one.effects.added two.effects.added (first.added given) (more.added given);
      out = out-ticks Old (ticks s.keys.0 g.faces.0.sessions (m.at Old)).effects.out (ticks s.keys.1 one.gate.faces.1.sessions (m.at New)).effects.out
          one.effects.out two.effects.out first.out more.out;
    }
goes-ticks s m New Given g =
    let told = (does_at s Old g (ticks s.keys.0 g.faces.0.sessions (m.at Old))).gate in
    let one = due s m Old told in
    let later = (does_at s New one.gate (ticks s.keys.1 one.gate.faces.1.sessions (m.at New))).gate in
    let two = due s m New later in
    let first = goes-all s m New Given Old (m.at Old) told in
    let more = goes-all s m New Given New (m.at New) later in
    let passes = old-passes s m s.keys.1 (m.at New) (m.at Old) (length told.faces.0.gathering.waiting) told in
    let begun = two.effects.begun in
    let told_out = (ticks s.keys.0 g.faces.0.sessions (m.at Old)).effects.out in
    let later_out = (ticks s.keys.1 one.gate.faces.1.sessions (m.at New)).effects.out in
    record {
      sessions = go-then s.keys.1 (m.at New) New one.effects.begun begun (heard s New a_tick m g) (heard s New a_tick m g) two.gate.faces.1.sessions
          (passes.none (heard s New a_tick m g))
          (subst (λ (t : Sessions). GoOn s.keys.1 (m.at New) New begun (ticks s.keys.1 t (m.at New)).sessions two.gate.faces.1.sessions) passes.same more.sessions);
      added = λ given. added-both one.effects.added two.effects.added (first.added given) (more.added given);
      out = subst (λ (t : Sessions). AllByRecursion (IsOutOf New (ticks s.keys.1 t (m.at New)).effects.out)
          ((routed_at Old told_out ++ one.effects.out) ++ (routed_at New later_out ++ two.effects.out))) passes.same
          (out-ticks New told_out later_out one.effects.out two.effects.out first.out more.out);
    }

goes-kept : (s : PeerSetup) (m : PeerMoments) (at face : Face) (octets : List ℕ) (came : Option ℕ) (g : PeerGate)
    → Goes s m at (0 < length octets) g (adds_kept s face (kept_piece s face octets came m) m g)
goes-kept s m at face octets came g =
    by (has_room_at (room_at (at_face s.keys face) (at_face g.faces face)) (kept_piece s face octets came m).size)
  where
    by : (t : Bool) → Goes s m at (0 < length octets) g (if t then adds s face m false (kept_piece s face octets came m) g else stays_so g)
    by true = goes-adds s m at (0 < length octets) face false (kept_piece s face octets came m) g (λ some. some)
    by false = goes-not s m at (0 < length octets) g

pub goes-event : (s : PeerSetup) (m : PeerMoments) (at : Face) (event : PeerEvent) (g : PeerGate)
    → GoesFrom s m at (IsSomePiece event) (heard s at event m g) (said s at event m g) (does s event m g)
unfolding arrives_peer
goes-event s m at (a_datagram face read) g =
    subst (λ (t : Sessions). GoesFrom s m at (Unit {0}) t (said s at (a_datagram face read) m g) (arrives_with s face m g (hears_at s face g read (m.at face)))) (did s m at face read g)
    (goes-arrives s m at (Unit {0}) face (hears_at s face g read (m.at face)) g)
goes-event s m at a_tick g = goes-ticks s m at (Unit {0}) g
goes-event s m at (a_kept_piece face octets came) g =
    let all = goes-kept s m at face octets came g in record { sessions = all.sessions; added = all.added; out = other-out at [] _ all.out }
