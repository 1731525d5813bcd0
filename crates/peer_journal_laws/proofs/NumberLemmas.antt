-- The number of a face's next session is 2^32 at most, whatever comes to the gate; and what a half commits reserves it.

use Rattle.std.proofs.Common.{◌≡◌, ℕ, zero, suc, ◌+◌, ◌<◌, ◌≤◌, Bool, true, false, nat_lt, ◌==◌, List, [], ◌∷◌, ◌++◌, length, Option, None, Some, Result, Ok, Err, IfSome, if◌then◌else◌, refl, ◌∙◌, sym, subst, arith}
use Rattle.std.proofs.lemmas.Bool.{and_parts, ltb-true}
use Rattle.ltp_segment.specs.declared.fault.SegmentCause.{SegmentCause}
use Rattle.ltp_segment.specs.Values.{SegmentValue}
use Rattle.ltp_session.specs.Engine.{Engine, Reply, is_used, replied_or_stranger, sender_replies, tick_step, to_sender, with_receiver, without_evicted}
use Rattle.ltp_session.specs.Receiver.{Receiving}
use Rattle.ltp_session.specs.Sender.{Sending, sender_answers}
use Rattle.ltp_session.specs.Step.{Change, StepValue, ends, keeps, stays}
use Rattle.ltp_session.specs.Table.{find}
use Rattle.face_room.specs.declared.bounds.TheConstants.{NUMBERS}
use Rattle.gate_cases.specs.declared.face.Face.{Face}
use Rattle.gate_cases.specs.declared.face.Face.TheVariants as faces
use Rattle.gate_cases.specs.declared.report.AskedReport.{AskedReport}
use Rattle.gate_cases.specs.Faces.{other_of}
use Rattle.gateway_core.specs.Gate.{at_face}
use Rattle.block_types.specs.declared.losing.LeftOut.{LeftOut}
use Rattle.journal_file.specs.Values.{KeptValue}
use Rattle.piece_gathering.specs.declared.piece.Piece.{Piece}
use Rattle.piece_gathering.specs.Gathered.{ready}
use Rattle.gate_log.specs.Subjects.{subject_of}
use Rattle.peer_cases.specs.declared.decision.Decision.{Decision}
use Rattle.peer_cases.specs.declared.pieces.SizedPiece.{SizedPiece}
use Rattle.peer_cases.specs.Arrivals.{Came as Read}
use Rattle.peer_cases.specs.Cases.{is_unreported}
use Rattle.peer_cases.specs.Rows.{Item, a_bundle, an_end, came_in, items_of}
use Rattle.peer_sessions.specs.Keys.{FaceKeys}
use Rattle.peer_sessions.specs.Sessions.{Sessions, SessionsStep, answer_to, answered, answers, closes, hears, left_by, passes, peer_replies, replies, stale, ticks, to_trim}
use Rattle.peer_gateway.specs.Keys.{PeerSetup}
use Rattle.peer_gateway.specs.Gate.{PeerFace, PeerGate, PeerMoments, PeerStep, and_then, in_turn, room_at, stays_so, tells, told_bundle, told_unreported}
use Rattle.peer_gateway.specs.Going.{adds, due, go, go_all, go_on, is_free, next_count, no_time, piece_at, waits_too}
use Rattle.peer_gateway.specs.Steps as steps
use Rattle.peer_gateway.specs.Steps.{PeerEvent, a_datagram, a_kept_piece, a_tick, arrives_peer, decides, does_at, due_if, has_ended, has_room_at, hears_at, kept_piece, peer_step, ticks_peer, with_outboxes}
use Rattle.peer_records.specs.Laws.{NumbersAreReserved}
use Rattle.peer_half.specs.Journals.{Journalled, kept_in}
use Rattle.peer_half.specs.Standing.{Standing}
use Rattle.peer_half.specs.Starts.{starts_at}
use Rattle.peer_half.specs.Parts as parts
use Rattle.peer_half.specs.Half.{Came, half, hears as half_hears}
use Rattle.peer_half.specs.Laws.{gate_past}
use Rattle.peer_half.specs.Run.{halves}
use Rattle.peer_half.specs.Runs.{Run, begins_at, setup_of, stands_at}
use Rattle.peer_half.proofs.EventLemmas.{events-at-once}
use Rattle.peer_half.proofs.NumberLemmas.{given-is-reserved}
use Rattle.peer_journal_laws.specs.Keeps.{NumbersAreKept}
use Rattle.peer_journal_laws.proofs.JournalLemmas.{gate-answers}
use Rattle.peer_journal_laws.proofs.StepLemmas.{same-some}

-- ---- the sessions of a face begin none by themselves

next-received : (e : Engine) (n : ℕ) (gone : Option ℕ) (change : Change Receiving) → (with_receiver (without_evicted e gone) n change).next ≡ e.next
unfolding with_receiver
next-received e n None stays = refl
next-received e n None (keeps r) = refl
next-received e n None ends = refl
next-received e n (Some other) stays = refl
next-received e n (Some other) (keeps r) = refl
next-received e n (Some other) ends = refl

abbrev next_left : Engine → Option Reply → ℕ
next_left e None = e.next
next_left e (Some reply) = reply.engine.next

next-replied : (k : FaceKeys) (s : Sessions) (segment : SegmentValue) (now : ℕ) → next_left s.engine (replies k s segment now) ≡ s.engine.next
unfolding replies
next-replied k s segment now = by (segment.originator == (k.party).own) (is_used k.party s.engine segment.session) (segment.originator == (k.party).peer)
  where
    by_sender : (answer : Option (StepValue Sending)) → next_left s.engine (sender_replies s.engine segment.session answer) ≡ s.engine.next
    by_sender None = refl
    by_sender (Some step) = refl

    by_receiver : (answer : Option (StepValue Receiving)) → next_left s.engine (peer_replies k s.engine segment.session answer) ≡ s.engine.next
    by_receiver None = refl
    by_receiver (Some step) = next-received s.engine segment.session _ step.next

    by : (own used peer : Bool) → next_left s.engine
        (if own then (if used then to_sender k.party s.engine segment now else None) else if peer then peer_replies k s.engine segment.session (answer_to k s segment now) else None) ≡ s.engine.next
    by true true peer = by_sender (sender_answers (k.party).policy (find segment.session s.engine.senders) segment.content now)
    by true false peer = refl
    by false used true = by_receiver (answer_to k s segment now)
    by false used false = refl

next-answers : (k : FaceKeys) (s : Sessions) (read : Result SegmentValue (ℕ × SegmentCause)) (now : ℕ) → (answers k s read now).engine.next ≡ s.engine.next
next-answers k s (Err refusal) now = refl
next-answers k s (Ok segment) now = by (replies k s segment now) (next-replied k s segment now)
  where
    by : (reply : Option Reply) → next_left s.engine reply ≡ s.engine.next
        → (replied_or_stranger s.engine (record { originator = segment.originator; number = segment.session }) reply).engine.next ≡ s.engine.next
    by None is = is
    by (Some reply) is = is

next-answered : (k : FaceKeys) (s : Sessions) (read : Result SegmentValue (ℕ × SegmentCause)) (now : ℕ) → (answered k s read now).engine.next ≡ s.engine.next
next-answered k s (Err refusal) now = refl
next-answered k s (Ok segment) now = next-answers k s (Ok segment) now

next-closes : (numbers : List ℕ) (s : Sessions) → (closes numbers s).engine.next ≡ s.engine.next
unfolding closes
next-closes [] s = refl
next-closes (n ∷ numbers) s = next-closes numbers (left_by (with_receiver s.engine n ends) s.memory s.moments) ∙ next-received s.engine n None ends

next-passes : (k : FaceKeys) (now : ℕ) (s : Sessions) → (passes k now s).engine.next ≡ s.engine.next
next-passes k now s = next-closes (stale k now s) _

next-hears : (k : FaceKeys) (s : Sessions) (read : Result SegmentValue (ℕ × SegmentCause)) (now : ℕ) → (hears k s read now).sessions.engine.next ≡ s.engine.next
unfolding hears
next-hears k s read now =
    let past = passes k now s in
    next-closes (to_trim k (answered k past read now)) (answered k past read now) ∙ (next-answered k past read now ∙ next-passes k now s)

next-ticks : (k : FaceKeys) (s : Sessions) (now : ℕ) → (ticks k s now).sessions.engine.next ≡ s.engine.next
unfolding ticks tick_step
next-ticks k s now = next-passes k now s

-- ---- a gate: a session begins only where a number is left

abbrev pub next_in : Face → PeerGate → ℕ
next_in at g = (((at_face g.faces at).sessions).engine).next

abbrev Few : Face → PeerGate → PeerGate → Type 0
Few at g h = next_in at g ≤ NUMBERS → next_in at h ≤ NUMBERS

few-same : (at : Face) (g h : PeerGate) → next_in at h ≡ next_in at g → Few at g h
few-same at g h same few = subst (λ n. n ≤ NUMBERS) (sym same) few

few-then : (at : Face) (g : PeerGate) (first : PeerStep) (next : PeerGate → PeerStep) → Few at g first.gate → ((h : PeerGate) → Few at h (next h).gate) → Few at g (and_then first next).gate
unfolding and_then
few-then at g first next one more few = more first.gate (one few)

few-turn : {X : Type 0} (at : Face) (does : X → PeerGate → PeerStep) → ((x : X) (g : PeerGate) → Few at g (does x g).gate) → (xs : List X) (g : PeerGate) → Few at g (in_turn does xs g).gate
unfolding in_turn
few-turn at does each [] g few = few
few-turn at does each (x ∷ xs) g few = few-then at g (does x g) (in_turn does xs) (each x g) (λ h. few-turn at does each xs h) few

few-if : (at : Face) (g : PeerGate) (test : Bool) (first second : PeerStep) → Few at g first.gate → Few at g second.gate → Few at g (if test then first else second).gate
few-if at g true first second one more few = one few
few-if at g false first second one more few = more few

few-does : (s : PeerSetup) (at face : Face) (g : PeerGate) (step : SessionsStep) → step.sessions.engine.next ≡ next_in face g → Few at g (does_at s face g step).gate
few-does s faces.Old faces.Old g step same few = few-same faces.Old g (does_at s faces.Old g step).gate same few
few-does s faces.Old faces.New g step same few = few
few-does s faces.New faces.Old g step same few = few
few-does s faces.New faces.New g step same few = few-same faces.New g (does_at s faces.New g step).gate same few

number-left : (k : FaceKeys) (until : ℕ) (f : PeerFace) → (next_count k until f == 0) ≡ false → ((f.sessions).engine).next < NUMBERS
number-left k until f some = by (is_free k f) refl some
  where
    by : (free : Bool) → is_free k f ≡ free → ((if free then ready f.gathering until else 0) == 0) ≡ false → ((f.sessions).engine).next < NUMBERS
    by true free is = ltb-true ((f.sessions).engine).next NUMBERS (and_parts (nat_lt (length ((f.sessions).engine).senders) (k.bounds).sessions) (nat_lt ((f.sessions).engine).next NUMBERS) free).1
    by false free is = absurd (cc)

few-go : (s : PeerSetup) (at face : Face) (m : PeerMoments) (until : ℕ) (g : PeerGate) → next_in face g < NUMBERS → Few at g (go s face m until g).gate
unfolding go
few-go s faces.Old faces.Old m until g left few = omega (arith, left)
few-go s faces.Old faces.New m until g left few = few
few-go s faces.New faces.Old m until g left few = few
few-go s faces.New faces.New m until g left few = omega (arith, left)

few-on : (s : PeerSetup) (at face : Face) (m : PeerMoments) (until n : ℕ) (g : PeerGate) → Few at g (go_on s face m until n g).gate
unfolding go_on
few-on s at face m until zero g few = few
few-on s at face m until (suc n) g few = by (next_count (at_face s.keys face) until (at_face g.faces face) == 0) refl (λ h. few-on s at face m until n h)
  where
    by : (t : Bool) → (next_count (at_face s.keys face) until (at_face g.faces face) == 0) ≡ t → ((h : PeerGate) → Few at h (go_on s face m until n h).gate)
        → next_in at (if t then stays_so g else and_then (go s face m until g) (go_on s face m until n)).gate ≤ NUMBERS
    by true is later = few
    by false is later =
        few-then at g (go s face m until g) (go_on s face m until n)
        (few-go s at face m until g (number-left (at_face s.keys face) until (at_face g.faces face) is)) later few

few-due : (s : PeerSetup) (at face : Face) (m : PeerMoments) (g : PeerGate) → Few at g (due s m face g).gate
few-due s at face m g = few-on s at face m (m.at face) _ g

few-waits : (at face : Face) (piece : Piece) (is_report : Bool) (g : PeerGate) → Few at g (waits_too face piece is_report g).gate
few-waits faces.Old faces.Old piece is_report g few = few
few-waits faces.Old faces.New piece is_report g few = few
few-waits faces.New faces.Old piece is_report g few = few
few-waits faces.New faces.New piece is_report g few = few

few-adds : (s : PeerSetup) (at face : Face) (m : PeerMoments) (is_report : Bool) (piece : Piece) (g : PeerGate) → Few at g (adds s face m is_report piece g).gate
unfolding adds
few-adds s at face m is_report piece g =
    few-then at g (waits_too face piece is_report g) (go_all s face m no_time) (few-waits at face piece is_report g)
    (λ h. few-on s at face m no_time _ h)

-- ---- what is decided about a block

few-reports : (s : PeerSetup) (at face : Face) (m : PeerMoments) (index : Option ℕ) (session : ℕ) (piece : SizedPiece) (g : PeerGate) → Few at g (steps.reports s face m index session piece g).gate
few-reports s at face m index session piece g few =
    let counted : PeerGate = record g { counter = g.counter + 1 } in
    few-then at g (adds s face m true (piece_at m face piece) counted) _ (few-adds s at face m true (piece_at m face piece) counted) (λ h few. few) few

few-answers : (s : PeerSetup) (at face : Face) (m : PeerMoments) (index : Option ℕ) (session : ℕ) (asked : Option AskedReport) (g : PeerGate) → Few at g (steps.answers s face m index session asked g).gate
unfolding steps.answers
few-answers s at face m index session None g few = few
few-answers s at face m index session (Some asked) g few =
    let piece : SizedPiece = steps.report_piece s m asked g in
    few-if at g (is_unreported (room_at (at_face s.keys face) (at_face g.faces face)) piece.size m.wall g.counter) (tells face (told_unreported index session) g)
    (steps.reports s face m index session piece g) (λ few. few) (few-reports s at face m index session piece g) few

few-left : (at face : Face) (index : Option ℕ) (session : ℕ) (left : Option LeftOut) (g : PeerGate) → Few at g (steps.tells_left face index session left g).gate
few-left at face index session None g few = few
few-left at face index session (Some left) g few = few

few-decides : (s : PeerSetup) (at face : Face) (m : PeerMoments) (index : Option ℕ) (session : ℕ) (d : Decision) (g : PeerGate) → Few at g (decides s face m index session d g).gate
unfolding decides
few-decides s at face m index session d g =
    few-then at g (steps.adds_all s (other_of face) m d.pieces g) _
    (few-turn at (λ (piece : SizedPiece). adds s (other_of face) m false (piece_at m (other_of face) piece))
    (λ piece h. few-adds s at (other_of face) m false (piece_at m (other_of face) piece) h) d.pieces g)
    (λ h. few-then at h (tells face _ h) _ (λ few. few)
    (λ i. few-then at i (steps.tells_left face index session d.left i) (steps.answers s face m index session d.report) (few-left at face index session d.left i)
    (λ j. few-answers s at face m index session d.report j)))

few-came : (s : PeerSetup) (at face : Face) (m : PeerMoments) (index : Option ℕ) (session : ℕ) (came : Option Read) (g : PeerGate) → Few at g (steps.passes_came s face m index session came g).gate
few-came s at face m index session None g few = few
few-came s at face m index session (Some came) g few = few-decides s at face m index session (steps.decided_at s face m came g) g few

few-item : (s : PeerSetup) (at face : Face) (m : PeerMoments) (session : ℕ) (item : Item) (g : PeerGate) → Few at g (steps.passes_item s face m session item g).gate
few-item s at face m session (a_bundle index octets) g few =
    few-then at g (tells face (told_bundle (subject_of octets)) g) (steps.passes_came s face m index session (came_in s.settings face octets)) (λ few. few)
    (λ h. few-came s at face m index session (came_in s.settings face octets) h) few
few-item s at face m session (an_end index end) g few = few

-- ---- an event

few-ended : (s : PeerSetup) (at face : Face) (m : PeerMoments) (ended : Bool) (g : PeerGate) → Few at g (due_if ended s m face g).gate
few-ended s at face m true g few = few-due s at face m g few
few-ended s at face m false g few = few

few-arrives : (s : PeerSetup) (at face : Face) (read : Result SegmentValue (ℕ × SegmentCause)) (m : PeerMoments) (g : PeerGate) → Few at g (arrives_peer s face read m g).gate
unfolding arrives_peer
few-arrives s at face read m g =
    let heard : SessionsStep = hears_at s face g read (m.at face) in
    few-then at g (does_at s face g heard) _ (few-does s at face g heard (next-hears (at_face s.keys face) (at_face g.faces face).sessions read (m.at face)))
    (λ h. few-then at h (in_turn (steps.passes s face m) (heard.effects).ups h) (due_if (has_ended (at_face g.faces face).sessions heard) s m face)
    (few-turn at (steps.passes s face m) (λ up i. few-turn at (steps.passes_item s face m up.session) (λ item j. few-item s at face m up.session item j) (items_of face up.body) i) (heard.effects).ups h)
    (λ i. few-ended s at face m (has_ended (at_face g.faces face).sessions heard) i))

few-face : (s : PeerSetup) (at face : Face) (m : PeerMoments) (g : PeerGate) → Few at g (steps.ticks_face s m face g).gate
few-face s at face m g =
    let ticked : SessionsStep = ticks (at_face s.keys face) (at_face g.faces face).sessions (m.at face) in
    few-then at g (does_at s face g ticked) (due s m face)
    (few-does s at face g ticked (next-ticks (at_face s.keys face) (at_face g.faces face).sessions (m.at face))) (λ h. few-due s at face m h)

few-ticks : (s : PeerSetup) (at : Face) (m : PeerMoments) (g : PeerGate) → Few at g (ticks_peer s m g).gate
unfolding ticks_peer
few-ticks s at m g = few-then at g (steps.ticks_face s m faces.Old g) _ (few-face s at faces.Old m g) (λ h. few-face s at faces.New m h)

few-with : (at : Face) (octets : ℕ × ℕ) (g : PeerGate) → next_in at (with_outboxes octets g) ≡ next_in at g
few-with faces.Old octets g = refl
few-with faces.New octets g = refl

few-event : (s : PeerSetup) (at : Face) (event : PeerEvent) (m : PeerMoments) (octets : ℕ × ℕ) (g : PeerGate) → Few at g (peer_step s event m octets g).gate
unfolding peer_step
few-event s at event m octets g few = by event (subst (λ n. n ≤ NUMBERS) (sym (few-with at octets g)) few)
  where
    found : PeerGate
    found = with_outboxes octets g

    by : (event : PeerEvent) → next_in at found ≤ NUMBERS → next_in at (steps.does s event m found).gate ≤ NUMBERS
    by (a_datagram face read) = few-arrives s at face read m found
    by a_tick = few-ticks s at m found
    by (a_kept_piece face block came) =
        let piece : Piece = kept_piece s face block came m in
        few-if at found _ (adds s face m false piece found) (stays_so found) (few-adds s at face m false piece found) (λ few. few)

few-past : (s : PeerSetup) (at : Face) (m : PeerMoments) (events : List (PeerEvent × (ℕ × ℕ))) (g : PeerGate) → Few at g (gate_past s m events g)
unfolding gate_past
few-past s at m [] g few = few
few-past s at m (event ∷ events) g few = few-past s at m events (peer_step s event.0 m event.1 g).gate (few-event s at event.0 m event.1 g few)

-- ---- a run

few-hears : (at face : Face) (came : Came) (s : Standing) → Few at s.gate (half_hears face came s).gate
few-hears at face came s few =
    let (again, (rest, heard)) = events-at-once face came s in
    subst (λ (g : PeerGate). next_in at g ≤ NUMBERS) (sym heard.gate) (few-past s.setup at _ (again ++ rest) s.gate few)

few-half : (at : Face) (board : Bool) (face : Face) (came : Came) (s : Standing) → Few at s.gate (half board face came s).standing.gate
unfolding half
few-half at board face came s few =
    subst (λ (g : PeerGate). next_in at g ≤ NUMBERS) (sym (gate-answers board came (half_hears face came s))) (few-hears at face came s few)

few-halves : (at : Face) (board : Bool) (face : Face) (comes : List Came) (s : Standing) → Few at s.gate (halves board face comes s).standing.gate
unfolding halves
few-halves at board face [] s few = few
few-halves at board face (came ∷ more) s few =
    few-halves at board (other_of face) more (half board face came s).standing (few-half at board face came s few)

first-next : (at : Face) (r : Run) → next_in at (begins_at r).gate ≡ ((at_face (setup_of r).keys at).party).first
unfolding starts_at
first-next faces.Old r = refl
first-next faces.New r = refl

numbers-few : (at face : Face) (came : Came) (r : Run) → ((at_face (setup_of r).keys at).party).first ≤ NUMBERS → parts.next_at at (half_hears face came (stands_at r)) ≤ NUMBERS
numbers-few at face came r few =
    few-hears at face came (stands_at r) (few-halves at r.board faces.Old r.comes (begins_at r) (subst (λ n. n ≤ NUMBERS) (sym (first-next at r)) few))

pub numbers-are-kept : NumbersAreReserved → NumbersAreKept
numbers-are-kept law r face came kept is few at =
    by (parts.reserves h).journal is
    (given-is-reserved law h (numbers-few faces.Old face came r (few faces.Old)) (numbers-few faces.New face came r (few faces.New))) at
  where
    h : Standing
    h = half_hears face came (stands_at r)

    by : (journal : Option Journalled) → kept_in journal ≡ Some kept
        → IfSome journal (λ j. (parts.next_at faces.Old h ≤ (((j.recorded).keeping).kept).old_reserved) × (parts.next_at faces.New h ≤ (((j.recorded).keeping).kept).new_reserved))
        → (at : Face) → parts.next_at at h ≤ at_face (kept.old_reserved, kept.new_reserved) at
    by None is reserved at = absurd (cc)
    by (Some j) is reserved faces.Old = subst (λ (k : KeptValue). parts.next_at faces.Old h ≤ k.old_reserved) (same-some ((j.recorded).keeping).kept kept is) reserved.0
    by (Some j) is reserved faces.New = subst (λ (k : KeptValue). parts.next_at faces.New h ≤ k.new_reserved) (same-some ((j.recorded).keeping).kept kept is) reserved.1
