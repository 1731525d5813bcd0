-- What a face keeps stays within half of its memory.

use Rattle.std.proofs.Common.{◌≡◌, ◌≢◌, ℕ, zero, suc, ◌+◌, ◌<◌, ◌≤◌, ◌^◌, ◌==◌, Bool, true, false, not, ◌||◌, nat_lt, nat_le, if◌then◌else◌, List, [], ◌∷◌, ◌++◌, map, length, Option, Some, None, Result, Ok, Err, All, refl, sym, ap, ◌∙◌, subst, arith}
use Rattle.std.specs.List.{sum_by}
use Rattle.std.proofs.lemmas.Bool.{eqb-false}
use Rattle.std.proofs.lemmas.Bool.Decides.{nat_tests}
use Rattle.std.proofs.lemmas.List.Elements.{All-drop, All-push}
use Rattle.std.proofs.lemmas.List.Sums.{sum_by_push, sum_by-cons}
use Rattle.std.proofs.lemmas.List.{map-append}
use Rattle.ltp_segment.specs.Policy.{PolicyValue}
use Rattle.ltp_segment.specs.declared.fault.SegmentCause.{SegmentCause}
use Rattle.ltp_segment.specs.Values.{ContentValue, PieceValue, SegmentValue}
use Rattle.ltp_session.specs.declared.timer.Timer.{Timer}
use Rattle.ltp_session.specs.Engine.{Engine, Reply, is_used, replied_or_stranger, sender_replies, to_sender, with_receiver, without_evicted}
use Rattle.ltp_session.specs.Receiver.{Receiving}
use Rattle.ltp_session.specs.Sender.{Sending, SendingPhase, begin, sender_answers, sender_cancelling, sender_due, sender_open, sender_tick, sending_timer}
use Rattle.ltp_session.specs.Step.{Change, StepValue, ends, keeps, sending, stays}
use Rattle.ltp_session.specs.Table.{AreAscending, find, put, settled, then_kept, ticked, without}
use Rattle.ltp_session.specs.Timer.{is_due, may_repeat}
use Rattle.ltp_laws.proofs.TableLemmas.{ascending-settled, ascending-ticked, find_below}
use Rattle.face_room.specs.Faces.{total}
use Rattle.peer_sessions.specs.Keys.{FaceKeys}
use Rattle.peer_sessions.specs.Sessions.{Sessions, SessionsStep, answer_to, answered, block_begins, blocks_in, closes, hears, left_by, makes_room, is_opened, peer_replies, replies, stale, ticks, to_trim}
use Rattle.peer_sessions.specs.Sessions.{passes as passed_by}
use Rattle.peer_sessions.proofs.SenderLemmas.{KeepsBy, answer-keeps, none-stays}
use Rattle.peer_gateway.proofs.BoundLemmas.{total-cons}
use Rattle.ltp_segment.specs.Values.{a_piece, a_sender_cancel}
use Rattle.ltp_session.specs.declared.name.SessionName.{SessionName}
use Rattle.ltp_session.specs.Engine.{sender_changes, tick_step}
use Rattle.ltp_session.specs.Sender.{gives_up}
use Rattle.ltp_session.specs.Step.{sent_too_often}
use Rattle.ltp_session.specs.Timer.{next_timer}
use Rattle.piece_gathering.specs.declared.piece.Piece.{Piece}
use Rattle.piece_gathering.specs.Gathered.{added_to, ready}
use Rattle.gate_cases.specs.declared.face.Face.{Face}
use Rattle.gate_cases.specs.declared.face.Face.TheVariants as faces
use Rattle.gateway_core.specs.Gate.{if_same, at_face}
use Rattle.face_room.specs.Bounds.{need}
use Rattle.face_room.specs.Faces.{sizes_of}
use Rattle.face_room.proofs.QueueLemmas.{queued-most, queues_within}
use Rattle.peer_cases.specs.declared.pieces.SizedPiece.{SizedPiece}
use Rattle.peer_cases.specs.declared.settings.PeerSettings.{PeerSettings}
use Rattle.peer_gateway.specs.Keys.{AreKeys, PeerSetup}
use Rattle.peer_gateway.specs.Gate.{AddedAt, PeerFace, PeerGate, PeerMoments, and_then, in_turn, is_at, kept_inside, may_queue, sizes_out, stays_so, with_queued}
use Rattle.peer_gateway.specs.Going.{adds, after_block, block_of, go, go_on, next_count, no_time, piece_at, waits_too, with_block}
use Rattle.peer_gateway.specs.Steps.{adds_all, does_at, hears_at, with_sessions}
use Rattle.peer_gateway.specs.Faces.{IsSized}
use Rattle.peer_gateway.proofs.BoundLemmas.{go-lessens}
use Rattle.ltp_session.specs.Engine.{UpValue}
use Rattle.gate_cases.specs.declared.case.GateCase.{GateCase}
use Rattle.gate_cases.specs.declared.case.GateCase.TheVariants.{BadBundle, Untranslated, Expired, HopLimit, Storage, Passed}
use Rattle.gate_cases.specs.declared.case.TheConstants.{NUMBERS}
use Rattle.gate_cases.specs.declared.report.AskedReport.{AskedReport}
use Rattle.gate_cases.specs.Faces.{other_of}
use Rattle.gate_log.specs.Subjects.{subject_of}
use Rattle.block_types.specs.declared.losing.LeftOut.{LeftOut}
use Rattle.face_room.specs.Loads.{has_room}
use Rattle.face_room.proofs.RoomLemmas.{room-parts}
use Rattle.peer_cases.specs.declared.room.FaceRoom.{FaceRoom}
use Rattle.peer_cases.specs.Arrivals.{Came}
use Rattle.peer_cases.specs.Cases.{case_of, decided, decision_in}
use Rattle.peer_cases.specs.Promises.{IsSendable, size_of}
use Rattle.peer_cases.specs.Rows.{Item, a_bundle, an_end, came_in, items_of}
use Rattle.peer_cases.proofs.PromiseLemmas.{decided_is_sendable}
use Rattle.peer_gateway.specs.Gate.{PeerStep, room_at, tells, told_bundle, told_case, told_reported, told_unreported}
use Rattle.peer_gateway.specs.Going.{due, go_all}
use Rattle.peer_gateway.specs.Steps.{PeerEvent, a_datagram, a_kept_piece, a_tick, arrives_peer, decided_at, decides, does, due_if, has_ended, has_room_at, kept_piece, next_if, passes, passes_came, passes_item, report_piece, reports, tells_left, ticks_face, ticks_peer}
use Rattle.peer_gateway.specs.Steps.{answers as answers_of}
use Rattle.std.proofs.lemmas.List.Elements.{All-nil}
use Rattle.outbox.specs.Laws.{GoesOutInOrder}
use Rattle.outbox.specs.Outbox.{octets_in}
use Rattle.outbox.specs.declared.reading.Reading.{Reading}
use Rattle.face_room.specs.Queues.{may_wait, queued_after}
use Rattle.peer_gateway.specs.Gate.{starts_face, starts_out, starts_puts}
use Rattle.peer_gateway.specs.Laws.{IsSizedAt, put_at}
use Rattle.peer_gateway.specs.Steps.{peer_gate_after, peer_step, with_outboxes}
use Rattle.peer_gateway.proofs.PutLemmas.{made_at, put-here}
use Rattle.peer_half.specs.Journals.{Journalled}
use Rattle.peer_half.specs.Standing.{Standing}
use Rattle.peer_half.specs.Starts.{starts_at}
use Rattle.peer_half.specs.Steps.{outboxes_in}
use Rattle.peer_half.specs.Parts.{reading_clocks}
use Rattle.peer_half.specs.Half.{answers}
use Rattle.peer_half.specs.Runs.{EventIn, Run, begins_at, event_at, first_gate, marked_before, setup_of}
use Rattle.peer_half.specs.Laws.{IsFitted, outbox_at, tried_at, waiting_at}
use Rattle.peer_half.proofs.PutLemmas.{after-puts, octets-append, octets-same}
use Rattle.peer_half.proofs.StandingLemmas.{after_event}
use Rattle.peer_run_laws.specs.Faces.{step_with}
use Rattle.peer_run_laws.specs.Bounds.{AddSized, AreSizedAt, IsWithinBy, StaysWithinHalf, StaysWithinInRuns}
use Rattle.peer_run_laws.proofs.WalkLemmas.{Core, KeepsHalves, core-answers, keeps-halves}
use Rattle.peer_run_laws.proofs.GateLemmas.{IsGateOf, gate-begins, gate-event, gate-halves, gate-keeps}
use Rattle.peer_run_laws.proofs.OrderLemmas.{first-waits, fitted-answers, fitted-begins, fitted-quiet, fitted-read, order-answers, starts-put}

-- ---- the blocks that are being sent

-- a change keeps a session's block
abbrev BlockStays : Sending → Change Sending → Type 0
BlockStays s stays = Unit {0}
BlockStays s (keeps t) = length t.block ≡ length s.block
BlockStays s ends = Unit {0}

put-total : (n low : ℕ) (s t : Sending) (es : List (ℕ × Sending)) → AreAscending low es → find n es ≡ Some s → length t.block ≡ length s.block
    → total (blocks_in (put n t es)) ≡ total (blocks_in es)
unfolding find put
put-total n low s t [] up found same = absurd (cc)
put-total n low s t (e ∷ es) up found same = by (e.0 == n) refl (nat_lt n e.0) refl found (λ h. put-total n (e.0 + 1) s t es up.1 h same)
  where
    by : (here : Bool) → (e.0 == n) ≡ here → (less : Bool) → nat_lt n e.0 ≡ less → (if here then Some e.1 else find n es) ≡ Some s
        → (find n es ≡ Some s → total (blocks_in (put n t es)) ≡ total (blocks_in es))
        → total (blocks_in (if here then (n, t) ∷ es else if less then (n, t) ∷ (e ∷ es) else e ∷ put n t es)) ≡ total (blocks_in (e ∷ es))
    by true is less is_less found rest =
        let it : e.1 ≡ s = cc in
        let new = total-cons (length t.block) (blocks_in es) in
        let old = total-cons (length e.1.block) (blocks_in es) in
        let sizes = ap (λ (x : Sending). length x.block) it in
        omega (arith, new, old, sizes, same)
    by false is true is_less found rest =
        let none : find n es ≡ None = find_below n (e.0 + 1) es (grind (arith, nat_tests)) up.1 in
        absurd (cc (none, found))
    by false is false is_less found rest =
        let new = total-cons (length e.1.block) (blocks_in (put n t es)) in
        let old = total-cons (length e.1.block) (blocks_in es) in
        omega (arith, new, old, rest found)

without-total : (n : ℕ) (es : List (ℕ × Sending)) → total (blocks_in (without n es)) ≤ total (blocks_in es)
unfolding without
without-total n [] = omega arith
without-total n (e ∷ es) = by (e.0 == n) (without-total n es)
  where
    by : (here : Bool) → total (blocks_in (without n es)) ≤ total (blocks_in es)
        → total (blocks_in (if here then without n es else e ∷ without n es)) ≤ total (blocks_in (e ∷ es))
    by true rest = let old = total-cons (length e.1.block) (blocks_in es) in omega (arith, rest, old)
    by false rest =
        let old = total-cons (length e.1.block) (blocks_in es) in
        let new = total-cons (length e.1.block) (blocks_in (without n es)) in
        omega (arith, rest, old, new)

ticked-total : (change : Sending → Change Sending) (es : List (ℕ × Sending)) → ((s : Sending) → BlockStays s (change s))
    → total (blocks_in (ticked change es)) ≤ total (blocks_in es)
unfolding ticked
ticked-total change [] each = omega arith
ticked-total change (e ∷ es) each = by (change e.1) (each e.1) (ticked-total change es each)
  where
    old : total (blocks_in (e ∷ es)) ≡ length e.1.block + total (blocks_in es)
    old = total-cons (length e.1.block) (blocks_in es)

    by : (c : Change Sending) → BlockStays e.1 c → total (blocks_in (ticked change es)) ≤ total (blocks_in es)
        → total (blocks_in (then_kept e c (ticked change es))) ≤ total (blocks_in (e ∷ es))
    by stays same rest = let new = total-cons (length e.1.block) (blocks_in (ticked change es)) in omega (arith, rest, old, new)
    by (keeps t) same rest = let new = total-cons (length t.block) (blocks_in (ticked change es)) in omega (arith, rest, old, new, same)
    by ends same rest = omega (arith, rest, old)

-- no more octets are being sent, and the sessions stay in order
pub record Lasts (before after : List (ℕ × Sending)) : Type 0 where
  pub ordered : AreAscending 0 after
  pub fewer : total (blocks_in after) ≤ total (blocks_in before)

lasts-same : (before after : List (ℕ × Sending)) → after ≡ before → AreAscending 0 before → Lasts before after
lasts-same before after same up = record { ordered = subst (AreAscending 0) (sym same) up; fewer = let one = ap (λ es. total (blocks_in es)) same in omega (arith, one) }

block-stays : (timer : Timer) (s : Sending) (c : Change Sending) → KeepsBy timer s c → BlockStays s c
block-stays timer s stays keep = tt
block-stays timer s (keeps t) keep = keep.block
block-stays timer s ends keep = tt

lasts-settled : (n : ℕ) (c : Change Sending) (kept : Option Sending) (es : List (ℕ × Sending)) → AreAscending 0 es → find n es ≡ kept
    → ((s : Sending) → kept ≡ Some s → BlockStays s c) → (kept ≡ None → c ≡ stays) → Lasts es (settled n c es)
lasts-settled n c None es up found some none =
    lasts-same es (settled n c es) (ap (λ (x : Change Sending). settled n x es) (none refl)) up
lasts-settled n stays (Some s) es up found some none = lasts-same es es refl up
lasts-settled n (keeps t) (Some s) es up found some none = record {
  ordered = ascending-settled n 0 (keeps t) es (omega arith) up;
  fewer = let one = put-total n 0 s t es up found (some s refl) in omega (arith, one);
}
lasts-settled n ends (Some s) es up found some none = record {
  ordered = ascending-settled n 0 ends es (omega arith) up;
  fewer = without-total n es;
}

-- ---- a datagram comes

closes-senders : (numbers : List ℕ) (s : Sessions) → (closes numbers s).engine.senders ≡ s.engine.senders
unfolding closes with_receiver
closes-senders [] s = refl
closes-senders (n ∷ numbers) s = closes-senders numbers (left_by (with_receiver s.engine n ends) s.memory s.moments)

received-senders : (e : Engine) (n : ℕ) (gone : Option ℕ) (next : Change Receiving) → (with_receiver (without_evicted e gone) n next).senders ≡ e.senders
unfolding with_receiver
received-senders e n None stays = refl
received-senders e n None (keeps r) = refl
received-senders e n None ends = refl
received-senders e n (Some g) stays = refl
received-senders e n (Some g) (keeps r) = refl
received-senders e n (Some g) ends = refl

-- the engine that a reply leaves
abbrev engine_by : Engine → Option Reply → Engine
engine_by e None = e
engine_by e (Some reply) = reply.engine

own-lasts : (policy : PolicyValue) (e : Engine) (n : ℕ) (content : ContentValue) (now : ℕ) (told : Option (StepValue Sending)) → AreAscending 0 e.senders
    → sender_answers policy (find n e.senders) content now ≡ told → Lasts e.senders (engine_by e (sender_replies e n told)).senders
own-lasts policy e n content now None up is = lasts-same e.senders e.senders refl up
own-lasts policy e n content now (Some step) up is =
    lasts-settled n step.next (find n e.senders) e.senders up refl
    (λ s found. block-stays _ s step.next (answer-keeps policy s content now step (ap (λ (x : Option Sending). sender_answers policy x content now) (sym found) ∙ is)))
    (λ none. none-stays policy content now step (ap (λ (x : Option Sending). sender_answers policy x content now) (sym none) ∙ is))

peer-lasts : (k : FaceKeys) (e : Engine) (n : ℕ) (told : Option (StepValue Receiving)) → AreAscending 0 e.senders
    → Lasts e.senders (engine_by e (peer_replies k e n told)).senders
peer-lasts k e n None up = lasts-same e.senders e.senders refl up
peer-lasts k e n (Some step) up =
    let gone = makes_room k e (is_opened (find n e.receivers) step.next) in
    lasts-same e.senders (with_receiver (without_evicted e gone) n step.next).senders (received-senders e n gone step.next) up

replies-last : (k : FaceKeys) (s : Sessions) (segment : SegmentValue) (now : ℕ) → AreAscending 0 s.engine.senders
    → Lasts s.engine.senders (engine_by s.engine (replies k s segment now)).senders
unfolding replies
replies-last k s segment now up = by (segment.originator == k.party.own) (is_used k.party s.engine segment.session) (segment.originator == k.party.peer)
  where
    none : Lasts s.engine.senders s.engine.senders
    none = lasts-same s.engine.senders s.engine.senders refl up

    by : (own used peer : Bool) → Lasts s.engine.senders (engine_by s.engine
        (if own then (if used then to_sender k.party s.engine segment now else None)
        else if peer then peer_replies k s.engine segment.session (answer_to k s segment now) else None)).senders
    by true true peer = own-lasts k.party.policy s.engine segment.session segment.content now _ up refl
    by true false peer = none
    by false used true = peer-lasts k s.engine segment.session (answer_to k s segment now) up
    by false used false = none

reply-engine : (e : Engine) (name : SessionName) (reply : Option Reply) → (replied_or_stranger e name reply).engine ≡ engine_by e reply
reply-engine e name None = refl
reply-engine e name (Some reply) = refl

answered-last : (k : FaceKeys) (s : Sessions) (read : Result SegmentValue (ℕ × SegmentCause)) (now : ℕ) → AreAscending 0 s.engine.senders
    → Lasts s.engine.senders (answered k s read now).engine.senders
answered-last k s (Err refusal) now up = lasts-same s.engine.senders s.engine.senders refl up
answered-last k s (Ok segment) now up =
    subst (λ (e : Engine). Lasts s.engine.senders e.senders) (sym (reply-engine s.engine _ (replies k s segment now))) (replies-last k s segment now up)

passes-senders : (k : FaceKeys) (now : ℕ) (s : Sessions) → (passed_by k now s).engine.senders ≡ s.engine.senders
passes-senders k now s = closes-senders (stale k now s) _

pub hears-last : (k : FaceKeys) (s : Sessions) (read : Result SegmentValue (ℕ × SegmentCause)) (now : ℕ) → AreAscending 0 s.engine.senders
    → Lasts s.engine.senders (hears k s read now).sessions.engine.senders
unfolding hears
hears-last k s read now up =
    let p = passed_by k now s in
    let same = passes-senders k now s in
    let last = closes-senders (to_trim k (answered k p read now)) (answered k p read now) in
    let all = answered-last k p read now (subst (AreAscending 0) (sym same) up) in
    subst (λ (es : List (ℕ × Sending)). Lasts s.engine.senders es) (sym last)
    (subst (λ (es : List (ℕ × Sending)). Lasts es (answered k p read now).engine.senders) same all)

-- ---- time passes

tick-stays : (policy : PolicyValue) (now : ℕ) (s : Sending) → BlockStays s (sender_tick policy s now).next
unfolding sender_tick
tick-stays policy now s = by s.phase
  where
    opened : (checkpoint : PieceValue) (timer : Timer) (due again : Bool) → BlockStays s
        (if due then (if again then sending (keeps (record s { phase = sender_open checkpoint (next_timer policy timer now) })) (a_piece checkpoint ∷ []) else gives_up policy s sent_too_often now []) else sending stays []).next
    opened checkpoint timer true true = refl
    opened checkpoint timer true false = refl
    opened checkpoint timer false again = tt

    cancelling : (reason : ℕ) (timer : Timer) (due again : Bool) → BlockStays s
        (if due then (if again then sending (keeps (record s { phase = sender_cancelling reason (next_timer policy timer now) })) (a_sender_cancel reason ∷ []) else sending ends []) else sending stays []).next
    cancelling reason timer true true = refl
    cancelling reason timer true false = tt
    cancelling reason timer false again = tt

    by : (phase : SendingPhase) → BlockStays s (if is_due (sending_timer phase) now then sender_due policy s phase now else sending stays []).next
    by (sender_open checkpoint timer) = opened checkpoint timer (is_due timer now) (may_repeat policy timer)
    by (sender_cancelling reason timer) = cancelling reason timer (is_due timer now) (may_repeat policy timer)

pub ticks-last : (k : FaceKeys) (s : Sessions) (now : ℕ) → AreAscending 0 s.engine.senders → Lasts s.engine.senders (ticks k s now).sessions.engine.senders
unfolding ticks tick_step
ticks-last k s now up =
    let same = passes-senders k now s in
    let p = passed_by k now s in
    let ascends = subst (AreAscending 0) (sym same) up in
    subst (λ (es : List (ℕ × Sending)). Lasts es (ticks k s now).sessions.engine.senders) same (record {
      ordered = ascending-ticked (sender_changes k.party now) 0 p.engine.senders ascends;
      fewer = ticked-total (sender_changes k.party now) p.engine.senders (λ (x : Sending). tick-stays k.party.policy now x);
    })

-- ---- at a face, with so much more

abbrev pub Held : ℕ → PeerSetup → Face → PeerGate → Type 0
Held more s at g = IsWithinBy more s.settings (at_face s.keys at) at (at_face g.faces at)

-- with less it is so too
less-held : (few many : ℕ) (s : PeerSetup) (at : Face) (g : PeerGate) → few ≤ many → Held many s at g → Held few s at g
less-held few many s at g less held = record { ordered = held.ordered; sized = held.sized; within = omega (arith, held.within, less) }

-- its sessions did something, and their datagrams were put or dropped
does-face : (s : PeerSettings) (k : FaceKeys) (at : Face) (f : PeerFace) (step : SessionsStep)
    → Lasts (f.sessions).engine.senders (step.sessions).engine.senders → IsWithinBy 0 s k at f
    → IsWithinBy 0 s k at (with_queued k (with_sessions f step) (step.effects).out)
does-face s k at f step lasts held =
    let after = with_sessions f step in
    let queue = queues_within k.bounds (kept_inside k after) f.queued (sizes_out (step.effects).out) in
    let fewer = lasts.fewer in
    record {
      ordered = lasts.ordered;
      sized = held.sized;
      within = let low = queue.within (omega (arith, held.within, fewer)) in omega (arith, low);
    }

hears-held : (s : PeerSetup) (m : PeerMoments) (at face : Face) (read : Result SegmentValue (ℕ × SegmentCause)) (g : PeerGate) → Held 0 s at g
    → Held 0 s at (does_at s face g (hears_at s face g read (m.at face))).gate
hears-held s m faces.Old faces.Old read g held = does-face s.settings s.keys.0 faces.Old g.faces.0 (hears s.keys.0 g.faces.0.sessions read (m.at faces.Old)) (hears-last s.keys.0 g.faces.0.sessions read (m.at faces.Old) held.ordered) held
hears-held s m faces.Old faces.New read g held = held
hears-held s m faces.New faces.Old read g held = held
hears-held s m faces.New faces.New read g held = does-face s.settings s.keys.1 faces.New g.faces.1 (hears s.keys.1 g.faces.1.sessions read (m.at faces.New)) (hears-last s.keys.1 g.faces.1.sessions read (m.at faces.New) held.ordered) held

ticks-held : (s : PeerSetup) (m : PeerMoments) (at face : Face) (g : PeerGate) → Held 0 s at g
    → Held 0 s at (does_at s face g (ticks (at_face s.keys face) (at_face g.faces face).sessions (m.at face))).gate
ticks-held s m faces.Old faces.Old g held = does-face s.settings s.keys.0 faces.Old g.faces.0 (ticks s.keys.0 g.faces.0.sessions (m.at faces.Old)) (ticks-last s.keys.0 g.faces.0.sessions (m.at faces.Old) held.ordered) held
ticks-held s m faces.Old faces.New g held = held
ticks-held s m faces.New faces.Old g held = held
ticks-held s m faces.New faces.New g held = does-face s.settings s.keys.1 faces.New g.faces.1 (ticks s.keys.1 g.faces.1.sessions (m.at faces.New)) (ticks-last s.keys.1 g.faces.1.sessions (m.at faces.New) held.ordered) held

-- ---- blocks go

go-face : (s : PeerSetup) (m : PeerMoments) (at : Face) (until more : ℕ) (f : PeerFace) → AreKeys (at_face s.keys at) → m.leaves at < 2 ^ 64
    → next_count (at_face s.keys at) until f ≢ 0 → IsWithinBy more s.settings (at_face s.keys at) at f
    → IsWithinBy more s.settings (at_face s.keys at) at
    (after_block (at_face s.keys at) f until (block_begins (at_face s.keys at) (f.sessions).engine (block_of s at m until f) (m.at at)))
unfolding begin
go-face s m at until more f keys early some held =
    let k = at_face s.keys at in
    let block = block_of s at m until f in
    let step = block_begins k (f.sessions).engine block (m.at at) in
    let after = with_block f until step in
    let sized : All (IsSizedAt s.settings at (m.leaves at)) (f.gathering).waiting = λ n d inside. held.sized n d inside (m.leaves at) early in
    let less = (go-lessens s at m until f block step keys sized some refl refl).kept in
    let queue = queued-most (may_queue k after) f.queued (sizes_out (step.effects).out) in
    record {
      ordered = ascending-settled (f.sessions).engine.next 0 _ (f.sessions).engine.senders (omega arith) held.ordered;
      sized = All-drop (IsSized s.settings at) (ready f.gathering until) (f.gathering).waiting held.sized;
      within = omega (arith, held.within, less, queue);
    }

go-held : (s : PeerSetup) (m : PeerMoments) (at face : Face) (until more : ℕ) (g : PeerGate) → AreKeys (at_face s.keys at) → m.leaves at < 2 ^ 64
    → next_count (at_face s.keys face) until (at_face g.faces face) ≢ 0 → Held more s at g → Held more s at (go s face m until g).gate
unfolding go
go-held s m faces.Old faces.Old until more g keys early some held = go-face s m faces.Old until more g.faces.0 keys early some held
go-held s m faces.Old faces.New until more g keys early some held = held
go-held s m faces.New faces.Old until more g keys early some held = held
go-held s m faces.New faces.New until more g keys early some held = go-face s m faces.New until more g.faces.1 keys early some held

going-held : (s : PeerSetup) (m : PeerMoments) (at face : Face) (until more n : ℕ) (g : PeerGate) → AreKeys (at_face s.keys at) → m.leaves at < 2 ^ 64
    → Held more s at g → Held more s at (go_on s face m until n g).gate
unfolding go_on and_then
going-held s m at face until more zero g keys early held = held
going-held s m at face until more (suc n) g keys early held =
    by (next_count (at_face s.keys face) until (at_face g.faces face) == 0) refl
    (λ next. going-held s m at face until more n (go s face m until g).gate keys early next)
  where
    by : (t : Bool) → (next_count (at_face s.keys face) until (at_face g.faces face) == 0) ≡ t
        → (Held more s at (go s face m until g).gate → Held more s at (go_on s face m until n (go s face m until g).gate).gate)
        → Held more s at (if t then stays_so g else and_then (go s face m until g) (go_on s face m until n)).gate
    by true is rest = held
    by false is rest =
        rest (go-held s m at face until more g keys early (eqb-false (next_count (at_face s.keys face) until (at_face g.faces face)) 0 is) held)

-- ---- a piece is added

-- what it will need at a face
abbrev need_at : FaceKeys → Face → Face → ℕ → ℕ
need_at k at face size = if_same face at (need k.bounds.segment size) 0

waits-face : (s : PeerSettings) (k : FaceKeys) (at : Face) (f : PeerFace) (piece : Piece) (more : ℕ) → IsSized s at piece
    → IsWithinBy (need k.bounds.segment piece.size + more) s k at f → IsWithinBy more s k at (record f { gathering = added_to f.gathering piece })
waits-face s k at f piece more sized held =
    let sizes = map-append (λ (p : Piece). p.size) (f.gathering).waiting (piece ∷ []) in
    let needs = ap (sum_by (need k.bounds.segment)) sizes ∙ sum_by_push (need k.bounds.segment) (sizes_of (f.gathering).waiting) piece.size in
    record {
      ordered = held.ordered;
      sized = All-push (IsSized s at) (f.gathering).waiting piece held.sized sized;
      within = omega (arith, held.within, needs);
    }

waits-held : (s : PeerSetup) (at face : Face) (is_report : Bool) (piece : Piece) (more : ℕ) (g : PeerGate) → (is_at at face ≡ true → IsSized s.settings at piece)
    → Held (need_at (at_face s.keys at) at face piece.size + more) s at g → Held more s at (waits_too face piece is_report g).gate
waits-held s faces.Old faces.Old is_report piece more g sized held = waits-face s.settings s.keys.0 faces.Old g.faces.0 piece more (sized refl) held
waits-held s faces.Old faces.New is_report piece more g sized held = less-held more (0 + more) s faces.Old g (omega arith) held
waits-held s faces.New faces.Old is_report piece more g sized held = less-held more (0 + more) s faces.New g (omega arith) held
waits-held s faces.New faces.New is_report piece more g sized held = waits-face s.settings s.keys.1 faces.New g.faces.1 piece more (sized refl) held

added-first : (s : PeerSettings) (at : Face) (xs ys : List AddedAt) → AreSizedAt s at (xs ++ ys) → AreSizedAt s at xs
added-first s at [] ys all = tt
added-first s at (x ∷ xs) ys all = (all.0, added-first s at xs ys all.1)

added-rest : (s : PeerSettings) (at : Face) (xs ys : List AddedAt) → AreSizedAt s at (xs ++ ys) → AreSizedAt s at ys
added-rest s at [] ys all = all
added-rest s at (x ∷ xs) ys all = added-rest s at xs ys all.1

adds-held : (s : PeerSetup) (m : PeerMoments) (at face : Face) (is_report : Bool) (piece : Piece) (more : ℕ) (g : PeerGate) → AreKeys (at_face s.keys at)
    → m.leaves at < 2 ^ 64 → AreSizedAt s.settings at (adds s face m is_report piece g).effects.added
    → Held (need_at (at_face s.keys at) at face piece.size + more) s at g → Held more s at (adds s face m is_report piece g).gate
unfolding adds and_then
adds-held s m at face is_report piece more g keys early sized held =
    let h = (waits_too face piece is_report g).gate in
    going-held s m at face no_time more (length ((at_face h.faces face).gathering).waiting) h keys early
    (waits-held s at face is_report piece more g sized.0 held)

abbrev needs_at : FaceKeys → Face → Face → List SizedPiece → ℕ
needs_at k at face pieces = sum_by (λ (p : SizedPiece). need_at k at face p.size) pieces

all-held : (s : PeerSetup) (m : PeerMoments) (at face : Face) (pieces : List SizedPiece) (more : ℕ) (g : PeerGate) → AreKeys (at_face s.keys at)
    → m.leaves at < 2 ^ 64 → AreSizedAt s.settings at (adds_all s face m pieces g).effects.added
    → Held (needs_at (at_face s.keys at) at face pieces + more) s at g → Held more s at (adds_all s face m pieces g).gate
unfolding in_turn and_then
all-held s m at face [] more g keys early sized held = less-held more (0 + more) s at g (omega arith) held
all-held s m at face (piece ∷ pieces) more g keys early sized held =
    let one = adds s face m false (piece_at m face piece) g in
    let rest = adds_all s face m pieces one.gate in
    let k = at_face s.keys at in
    let sum = sum_by-cons (λ (p : SizedPiece). need_at k at face p.size) piece pieces in
    all-held s m at face pieces more one.gate keys early (added-rest s.settings at one.effects.added rest.effects.added sized)
    (adds-held s m at face false (piece_at m face piece) (needs_at k at face pieces + more) g keys early
    (added-first s.settings at one.effects.added rest.effects.added sized)
    (less-held (need_at k at face piece.size + (needs_at k at face pieces + more)) (needs_at k at face (piece ∷ pieces) + more) s at g (omega (arith, sum)) held))

-- ---- where there is room

-- within the bounds it is so with these pieces
room-held : (s : PeerSetup) (at : Face) (sizes : List ℕ) (g : PeerGate) → IsWithinBy 0 s.settings (at_face s.keys at) at (at_face g.faces at)
    → has_room (room_at (at_face s.keys at) (at_face g.faces at)).bounds (room_at (at_face s.keys at) (at_face g.faces at)).load sizes ≡ true
    → Held (sum_by (need (at_face s.keys at).bounds.segment) sizes) s at g
room-held s at sizes g held room =
    let k = at_face s.keys at in
    let f = at_face g.faces at in
    let parts = room-parts k.bounds (room_at k f).load sizes room in
    let queue = total-cons f.queued [] in
    record {
      ordered = held.ordered;
      sized = held.sized;
      within = omega (arith, parts.1.kept, queue);
    }

-- pieces need nothing at the other face
needs-there : (k : FaceKeys) (at face : Face) (pieces : List SizedPiece) → needs_at k at face pieces
    ≡ if_same face at (sum_by (need k.bounds.segment) (map size_of pieces)) 0
needs-there k at face [] = by face at
  where
    by : (face at : Face) → ◌≡◌ {A = ℕ} 0 (if_same face at 0 0)
    by faces.Old faces.Old = refl
    by faces.Old faces.New = refl
    by faces.New faces.Old = refl
    by faces.New faces.New = refl
needs-there k at face (piece ∷ pieces) = by face at (needs-there k at face pieces)
  where
    one : (face at : Face) → needs_at k at face (piece ∷ pieces) ≡ need_at k at face piece.size + needs_at k at face pieces
    one face at = sum_by-cons (λ (p : SizedPiece). need_at k at face p.size) piece pieces

    two : sum_by (need k.bounds.segment) (map size_of (piece ∷ pieces)) ≡ need k.bounds.segment piece.size + sum_by (need k.bounds.segment) (map size_of pieces)
    two = sum_by-cons (need k.bounds.segment) piece.size (map size_of pieces)

    by : (face at : Face) → needs_at k at face pieces ≡ if_same face at (sum_by (need k.bounds.segment) (map size_of pieces)) 0
        → needs_at k at face (piece ∷ pieces) ≡ if_same face at (sum_by (need k.bounds.segment) (map size_of (piece ∷ pieces))) 0
    by faces.Old faces.Old rest = let first = one faces.Old faces.Old in omega (arith, first, rest, two)
    by faces.Old faces.New rest = let first = one faces.Old faces.New in omega (arith, first, rest)
    by faces.New faces.Old rest = let first = one faces.New faces.Old in omega (arith, first, rest)
    by faces.New faces.New rest = let first = one faces.New faces.New in omega (arith, first, rest, two)

-- where the face has room for pieces, they can be added
roomy-held : (s : PeerSetup) (at face : Face) (sizes : List ℕ) (n : ℕ) (g : PeerGate)
    → n ≡ if_same face at (sum_by (need (at_face s.keys at).bounds.segment) sizes) 0
    → has_room (room_at (at_face s.keys face) (at_face g.faces face)).bounds (room_at (at_face s.keys face) (at_face g.faces face)).load sizes ≡ true
    → Held 0 s at g → Held n s at g
roomy-held s faces.Old faces.Old sizes n g is room held = less-held n _ s faces.Old g (omega (arith, is)) (room-held s faces.Old sizes g held room)
roomy-held s faces.Old faces.New sizes n g is room held = less-held n 0 s faces.Old g (omega (arith, is)) held
roomy-held s faces.New faces.Old sizes n g is room held = less-held n 0 s faces.New g (omega (arith, is)) held
roomy-held s faces.New faces.New sizes n g is room held = less-held n _ s faces.New g (omega (arith, is)) (room-held s faces.New sizes g held room)

one-held : (s : PeerSetup) (m : PeerMoments) (at face : Face) (is_report : Bool) (piece : Piece) (g : PeerGate) → AreKeys (at_face s.keys at) → m.leaves at < 2 ^ 64
    → has_room (room_at (at_face s.keys face) (at_face g.faces face)).bounds (room_at (at_face s.keys face) (at_face g.faces face)).load (piece.size ∷ []) ≡ true
    → AreSizedAt s.settings at (adds s face m is_report piece g).effects.added → Held 0 s at g → Held 0 s at (adds s face m is_report piece g).gate
one-held s m at face is_report piece g keys early room sized held =
    let k = at_face s.keys at in
    let n = need_at k at face piece.size in
    let is : n + 0 ≡ if_same face at (sum_by (need k.bounds.segment) (piece.size ∷ [])) 0 = by face at in
    adds-held s m at face is_report piece 0 g keys early sized (roomy-held s at face (piece.size ∷ []) (n + 0) g is room held)
  where
    by : (face at : Face) → need_at (at_face s.keys at) at face piece.size + 0 ≡ if_same face at (sum_by (need (at_face s.keys at).bounds.segment) (piece.size ∷ [])) 0
    by faces.Old faces.Old = let one = sum_by-cons (need s.keys.0.bounds.segment) piece.size [] in omega (arith, one)
    by faces.Old faces.New = refl
    by faces.New faces.Old = refl
    by faces.New faces.New = let one = sum_by-cons (need s.keys.1.bounds.segment) piece.size [] in omega (arith, one)

-- ---- a bundle

case-held : (s : PeerSetup) (m : PeerMoments) (at to : Face) (came : Came) (case : GateCase) (g : PeerGate) → AreKeys (at_face s.keys at) → m.leaves at < 2 ^ 64
    → IsSendable (room_at (at_face s.keys to) (at_face g.faces to)) (decision_in s.settings to came s.cut case)
    → AreSizedAt s.settings at (adds_all s to m (decision_in s.settings to came s.cut case).pieces g).effects.added
    → Held 0 s at g → Held 0 s at (adds_all s to m (decision_in s.settings to came s.cut case).pieces g).gate
unfolding in_turn
case-held s m at to came (BadBundle place cause) g keys early sendable sized held = held
case-held s m at to came (Untranslated cause) g keys early sendable sized held = held
case-held s m at to came Expired g keys early sendable sized held = held
case-held s m at to came HopLimit g keys early sendable sized held = held
case-held s m at to came Storage g keys early sendable sized held = held
case-held s m at to came Passed g keys early sendable sized held =
    let pieces = (decision_in s.settings to came s.cut Passed).pieces in
    let k = at_face s.keys at in
    let same = needs-there k at to pieces in
    all-held s m at to pieces 0 g keys early sized
    (roomy-held s at to (map size_of pieces) (needs_at k at to pieces + 0) g (omega (arith, same)) (sendable.room_is refl).1 held)

-- what is added with a step has such sizes; then it stays so
abbrev Stays : PeerSetup → Face → PeerGate → PeerStep → Type 0
Stays s at g step = AreSizedAt s.settings at step.effects.added → Held 0 s at g → Held 0 s at step.gate

then-stays : (s : PeerSetup) (at : Face) (g : PeerGate) (first : PeerStep) (next : PeerGate → PeerStep) → Stays s at g first → Stays s at first.gate (next first.gate)
    → Stays s at g (and_then first next)
unfolding and_then
then-stays s at g first next one two = λ sized held.
    let more = next first.gate in
    two (added-rest s.settings at first.effects.added more.effects.added sized) (one (added-first s.settings at first.effects.added more.effects.added sized) held)

turn-stays : {X : Type 0} (s : PeerSetup) (at : Face) (does : X → PeerGate → PeerStep) → ((x : X) (g : PeerGate) → Stays s at g (does x g)) → (xs : List X) (g : PeerGate)
    → Stays s at g (in_turn does xs g)
unfolding in_turn
turn-stays s at does each [] g = λ sized held. held
turn-stays s at does each (x ∷ xs) g = then-stays s at g (does x g) (in_turn does xs) (each x g) (turn-stays s at does each xs (does x g).gate)

module _ (s : PeerSetup) (m : PeerMoments) (at : Face) (keys : AreKeys (at_face s.keys at)) (early : m.leaves at < 2 ^ 64)
  where
    all-stays : (face : Face) (until : ℕ) (g : PeerGate) → Stays s at g (go_all s face m until g)
    all-stays face until g = λ sized held. going-held s m at face until 0 (length ((at_face g.faces face).gathering).waiting) g keys early held

    decided-stays : (face : Face) (came : Came) (g : PeerGate) → Stays s at g (adds_all s (other_of face) m (decided_at s face m came g).pieces g)
    unfolding decided
    decided-stays face came g = λ sized held.
        let room = room_at (at_face s.keys (other_of face)) (at_face g.faces (other_of face)) in
        case-held s m at (other_of face) came (case_of s.settings (other_of face) came m.wall s.cut room) g keys early
        (decided_is_sendable s.settings face came m.wall s.cut room) sized held

    counted-stays : (g : PeerGate) (step : PeerStep) → Stays s at (record g { counter = g.counter + 1 }) step → Stays s at g step
    counted-stays g step so = λ sized held. so sized (record { ordered = held.ordered; sized = held.sized; within = held.within })

    answers-stay : (face : Face) (index : Option ℕ) (session : ℕ) (asked : Option AskedReport) (g : PeerGate) → Stays s at g (answers_of s face m index session asked g)
    unfolding answers_of
    answers-stay face index session None g = λ sized held. held
    answers-stay face index session (Some asked) g = by (has_room room.bounds room.load (size ∷ [])) refl (nat_lt m.wall 1000) (nat_le NUMBERS g.counter)
      where
        piece : SizedPiece
        piece = report_piece s m asked g

        size : ℕ
        size = piece.size

        room : FaceRoom
        room = room_at (at_face s.keys face) (at_face g.faces face)

        counted : PeerGate
        counted = record g { counter = g.counter + 1 }

        by : (fits : Bool) → has_room room.bounds room.load (size ∷ []) ≡ fits → (soon spent : Bool)
            → Stays s at g (if not fits || soon || spent then tells face (told_unreported index session) g else reports s face m index session piece g)
        by false is soon spent = λ sized held. held
        by true is true spent = λ sized held. held
        by true is false true = λ sized held. held
        by true is false false =
            then-stays s at g (adds s face m true (piece_at m face piece) counted) (tells face (told_reported index session (next_if s face g)))
            (counted-stays g (adds s face m true (piece_at m face piece) counted)
            (λ sized held. one-held s m at face true (piece_at m face piece) counted keys early is sized held))
            (λ sized held. held)

    left-stays : (face : Face) (index : Option ℕ) (session : ℕ) (left : Option LeftOut) (g : PeerGate) → Stays s at g (tells_left face index session left g)
    left-stays face index session None g = λ sized held. held
    left-stays face index session (Some left) g = λ sized held. held

    came-stays : (face : Face) (index : Option ℕ) (session : ℕ) (came : Option Came) (g : PeerGate) → Stays s at g (passes_came s face m index session came g)
    unfolding decides
    came-stays face index session None g = λ sized held. held
    came-stays face index session (Some came) g =
        let d = decided_at s face m came g in
        let to = other_of face in
        let first = adds_all s to m d.pieces g in
        let told = tells face (told_case index session d.case (length d.pieces) (next_if s to g)) in
        then-stays s at g first (λ h. and_then (told h) (λ i. and_then (tells_left face index session d.left i) (answers_of s face m index session d.report)))
        (decided-stays face came g)
        (then-stays s at first.gate (told first.gate) (λ i. and_then (tells_left face index session d.left i) (answers_of s face m index session d.report))
        (λ sized held. held)
        (then-stays s at first.gate (tells_left face index session d.left first.gate) (answers_of s face m index session d.report)
        (left-stays face index session d.left first.gate)
        (answers-stay face index session d.report (tells_left face index session d.left first.gate).gate)))

    item-stays : (face : Face) (session : ℕ) (item : Item) (g : PeerGate) → Stays s at g (passes_item s face m session item g)
    item-stays face session (a_bundle index octets) g =
        then-stays s at g (tells face (told_bundle (subject_of octets)) g) (passes_came s face m index session (came_in s.settings face octets))
        (λ sized held. held) (came-stays face index session (came_in s.settings face octets) g)
    item-stays face session (an_end index end) g = λ sized held. held

    up-stays : (face : Face) (up : UpValue) (g : PeerGate) → Stays s at g (passes s face m up g)
    up-stays face up g = turn-stays s at (passes_item s face m up.session) (item-stays face up.session) (items_of face up.body) g

    due-stays : (ended : Bool) (face : Face) (g : PeerGate) → Stays s at g (due_if ended s m face g)
    due-stays true face g = all-stays face (m.at face) g
    due-stays false face g = λ sized held. held

    tick-stays-at : (face : Face) (g : PeerGate) → Stays s at g (ticks_face s m face g)
    tick-stays-at face g =
        let step = ticks (at_face s.keys face) (at_face g.faces face).sessions (m.at face) in
        let first = does_at s face g step in
        then-stays s at g first (due s m face) (λ sized held. ticks-held s m at face g held) (all-stays face (m.at face) first.gate)

    event-stays : (event : PeerEvent) (g : PeerGate) → Stays s at g (does s event m g)
    unfolding arrives_peer ticks_peer
    event-stays (a_datagram face read) g =
        let step = hears_at s face g read (m.at face) in
        let first = does_at s face g step in
        let ended = has_ended (at_face g.faces face).sessions step in
        let second = in_turn (passes s face m) step.effects.ups first.gate in
        then-stays s at g first (λ h. and_then (in_turn (passes s face m) step.effects.ups h) (due_if ended s m face))
        (λ sized held. hears-held s m at face read g held)
        (then-stays s at first.gate second (due_if ended s m face)
        (turn-stays s at (passes s face m) (up-stays face) step.effects.ups first.gate) (due-stays ended face second.gate))
    event-stays a_tick g =
        let first = ticks_face s m faces.Old g in
        then-stays s at g first (ticks_face s m faces.New) (tick-stays-at faces.Old g) (tick-stays-at faces.New first.gate)
    event-stays (a_kept_piece face octets came) g =
        let piece = kept_piece s face octets came m in
        by (has_room_at (room_at (at_face s.keys face) (at_face g.faces face)) piece.size) refl
      where
        piece : Piece
        piece = kept_piece s face octets came m

        by : (t : Bool) → has_room_at (room_at (at_face s.keys face) (at_face g.faces face)) piece.size ≡ t
            → Stays s at g (if t then adds s face m false piece g else stays_so g)
        by true is = λ sized held. one-held s m at face false piece g keys early is sized held
        by false is = λ sized held. held

pub stays-within-half : StaysWithinHalf
stays-within-half s event m at g keys early sized held = event-stays s m at keys early event g sized held

-- ---- over a run

-- a gate whose face is so, at which an event finds no more octets than were left
found-held : (s : PeerSetup) (at : Face) (octets : ℕ × ℕ) (g : PeerGate) → at_face octets at ≤ (at_face g.faces at).queued → Held 0 s at g → Held 0 s at (with_outboxes octets g)
found-held s faces.Old octets g few held = record { ordered = held.ordered; sized = held.sized; within = omega (arith, held.within, few) }
found-held s faces.New octets g few held = record { ordered = held.ordered; sized = held.sized; within = omega (arith, held.within, few) }

step-held : (s : PeerSetup) (at : Face) (g : PeerGate) (event : EventIn) → AreKeys (at_face s.keys at) → event.1.0.leaves at < 2 ^ 64
    → at_face event.1.1 at ≤ (at_face g.faces at).queued → AreSizedAt s.settings at (step_with s g event).effects.added → Held 0 s at g
    → Held 0 s at (step_with s g event).gate
unfolding peer_step
step-held s at g event keys early few sized held =
    stays-within-half s event.0 event.1.0 at (with_outboxes event.1.1 g) keys early sized (found-held s at event.1.1 g few held)

-- at each moment of a run no more octets wait than the gate counts; and where sizes are as they say, the face is so
record IsKept (setup : PeerSetup) (at : Face) (start : PeerGate) (s : Standing) (events : List EventIn) : Type 0 where
  of_gate : IsGateOf setup start s events
  fitted : IsFitted at s
  counted : outbox_at at s ≤ (at_face s.gate.faces at).queued
  held : AddSized setup at start events → Held 0 setup at s.gate

-- the octets that an event finds
finds : (at : Face) (s : Standing) → at_face (outboxes_in s) at ≡ outbox_at at s
finds faces.Old s = refl
finds faces.New s = refl

kept-event : (setup : PeerSetup) (at : Face) (start : PeerGate) → AreKeys (at_face setup.keys at) → (event : PeerEvent) (journal : Option Journalled) (s : Standing) (earlier : List EventIn)
    → IsKept setup at start s earlier → IsKept setup at start (after_event event journal s) (event_at event s ∷ earlier)
unfolding AddSized
kept-event setup at start keys event journal s earlier so =
    let t = after_event event journal s in
    let here = after-puts event s t at so.fitted refl refl refl in
    let g = peer_gate_after setup start earlier in
    let gate_is = so.of_gate.gate_is in
    let found = finds at s in
    let queued = ap (λ (x : PeerGate). (at_face x.faces at).queued) gate_is in
    record {
      of_gate = gate-event setup start event journal s earlier so.of_gate;
      fitted = here.fitted;
      counted = let same = here.counted in omega (arith, same);
      held = λ all.
          let held = subst (λ (x : PeerGate). Held 0 setup at x) gate_is (so.held all.1.1) in
          let few : at_face (outboxes_in s) at ≤ (at_face g.faces at).queued = omega (arith, so.counted, found, queued) in
          let next = step-held setup at g (event_at event s) keys all.0 few all.1.0 held in
          subst (λ (u : PeerSetup). Held 0 setup at (step_with u s.gate (event_at event s)).gate) (sym so.of_gate.setup_is)
          (subst (λ (x : PeerGate). Held 0 setup at (step_with setup x (event_at event s)).gate) (sym gate_is) next);
    }

kept-halves : GoesOutInOrder → (setup : PeerSetup) (at : Face) (start : PeerGate) → AreKeys (at_face setup.keys at) → KeepsHalves (IsKept setup at start)
kept-halves law setup at start keys = record {
  events = record {
    quiet = λ s t earlier same so.
        let octets = ap (λ (x : Standing). outbox_at at x) same in
        let gate = ap (λ (x : Standing). x.gate) same in
        let queued = ap (λ (x : PeerGate). (at_face x.faces at).queued) gate in
        record {
          of_gate = (gate-keeps setup start).quiet s t earlier same so.of_gate;
          fitted = fitted-quiet at s t same so.fitted;
          counted = omega (arith, so.counted, octets, queued);
          held = λ all. subst (λ (x : PeerGate). Held 0 setup at x) gate (so.held all);
        };
    event = kept-event setup at start keys;
  };
  reads = λ now s earlier so. record {
    of_gate = (gate-halves setup start).reads now s earlier so.of_gate;
    fitted = fitted-read at now s so.fitted;
    counted = let same = outbox-read at now s in omega (arith, so.counted, same);
    held = so.held;
  };
  answers = λ board came s earlier so.
      let after = (answers board came s).standing in
      let gate = ap (λ (c : Core). c.gate) (core-answers board came s) in
      let queued = ap (λ (x : PeerGate). (at_face x.faces at).queued) gate in
      let all = ap octets_in (order-answers law at board came s) in
      let parts = octets-append (tried_at at (answers board came s).acts) (waiting_at at after) in
      record {
        of_gate = (gate-halves setup start).answers board came s earlier so.of_gate;
        fitted = fitted-answers law at board came s so.fitted;
        counted = omega (arith, so.counted, queued, all, parts);
        held = λ sized. subst (λ (x : PeerGate). Held 0 setup at x) (sym gate) (so.held sized);
      };
} where
  outbox-read : (at : Face) (now : Reading) (s : Standing) → outbox_at at (reading_clocks now s) ≡ outbox_at at s
  outbox-read faces.Old now s = refl
  outbox-read faces.New now s = refl

-- at the beginning nothing is being sent, and no piece waits
starts-held : (settings : PeerSettings) (k : FaceKeys) (at : Face) (now : ℕ) (marks : List ℕ) → IsWithinBy 0 settings k at (starts_face k now marks)
starts-held settings k at now marks =
    let queue = (queues_within k.bounds 0 0 (sizes_out (starts_out k marks))).within (omega arith) in
    record { ordered = tt; sized = All-nil (IsSized settings at); within = omega (arith, queue) }

begins-held : (r : Run) (at : Face) → Held 0 (setup_of r) at (first_gate r)
begins-held r faces.Old = starts-held (setup_of r).settings (setup_of r).keys.0 faces.Old r.wall (marked_before r).0
begins-held r faces.New = starts-held (setup_of r).settings (setup_of r).keys.1 faces.New r.wall (marked_before r).1

-- what is put of the cancels is what the gate counts
begins-counted : (r : Run) (at : Face) → outbox_at at (begins_at r) ≤ (at_face (first_gate r).faces at).queued
begins-counted r at =
    let is = ap octets_in (first-waits r at ∙ starts-put (setup_of r) (marked_before r) at) in
    let same = octets-same (put_at at (starts_puts (at_face (setup_of r).keys at) (at_face (marked_before r) at)) (made_at at (starts_out (at_face (setup_of r).keys at) (at_face (marked_before r) at)))) in
    let here = put-here at (may_wait (at_face (setup_of r).keys at).bounds 0) 0 (starts_out (at_face (setup_of r).keys at) (at_face (marked_before r) at)) in
    let queued = starts at in
    omega (arith, is, same, here, queued)
  where
    starts : (at : Face) → (at_face (first_gate r).faces at).queued
        ≡ queued_after (may_wait (at_face (setup_of r).keys at).bounds 0) 0 (sizes_out (starts_out (at_face (setup_of r).keys at) (at_face (marked_before r) at)))
    starts faces.Old = refl
    starts faces.New = refl

kept-begins : (r : Run) (at : Face) → IsKept (setup_of r) at (first_gate r) (begins_at r) []
unfolding starts_at
kept-begins r at = record {
  of_gate = gate-begins r;
  fitted = fitted-begins r at;
  counted = begins-counted r at;
  held = λ none. begins-held r at;
}

pub stays-within-in-runs : GoesOutInOrder → StaysWithinInRuns
stays-within-in-runs law r at keys sized =
    let setup = setup_of r in
    let start = first_gate r in
    let all = keeps-halves (IsKept setup at start) (kept-halves law setup at start keys) r.board faces.Old r.comes (begins_at r) [] (kept-begins r at) in
    let held = all.held sized in
    (held, omega (arith, held.within, all.counted))
