-- The sessions of a face among other implementations. What is done about a session is what `ltp_session`
-- does. The sessions that are kept have bounds of the face, and those that are over are remembered for a
-- time (own rule; RFC 5326, section 6, leaves it open for how long).

use Rattle.std.specs.Prelude.{ℕ, ◌-◌, ◌==◌, Bool, true, false, not, ◌&&◌, nat_lt, nat_le, if◌then◌else◌, List, [], ◌∷◌, ◌++◌, map, length, Option, Some, None, is_some, Result, Ok, Err}
use Rattle.std.specs.List.{filter}
use Rattle.std.specs.Option.{option_map}
use Rattle.ltp_segment.specs.declared.fault.SegmentCause.{SegmentCause}
use Rattle.ltp_segment.specs.declared.session.Note.{Note}
use Rattle.ltp_segment.specs.declared.session.Note.TheVariants as notes
use Rattle.ltp_segment.specs.Kinds.{is_red}
use Rattle.ltp_segment.specs.Values.{ContentValue, SegmentValue, a_piece, a_report, a_report_ack, a_sender_cancel, a_sender_cancel_ack, a_receiver_cancel, a_receiver_cancel_ack}
use Rattle.ltp_session.specs.Cells.{is_no_part}
use Rattle.ltp_session.specs.Step.{Change, stays, keeps, ends, StepValue}
use Rattle.ltp_session.specs.Sender.{Sending, begin}
use Rattle.ltp_session.specs.Receiver.{Receiving, Admission, receiver_answers}
use Rattle.ltp_session.specs.Table.{find, without}
use Rattle.ltp_session.specs.Engine.{Engine, Reply, EffectsValue, EngineStep, list_of, notes_of, is_used, with_receiver, without_evicted, longest_untouched, to_sender, replied, replied_or_stranger, noted, begun, tick_step, starts}
use Rattle.session_memory.specs.Memory.{Memory, is_remembered, passed, with_place, forgotten_by, closed, touched, forgotten_at}
use Rattle.face_room.specs.Bounds.{half}
use Rattle.ltp_engine.specs.Sessions.{cells_in}
use Rattle.peer_sessions.specs.Keys.{FaceKeys, remembers_from}

-- The engine's own list of closed numbers is empty between steps: with a step it gets those that the step
-- closes, and they are remembered. And the moment at which each receiving session was last touched, the
-- longest untouched first.
pub record Sessions : Type 0 where
  pub engine : Engine
  pub memory : Memory
  pub moments : List (ℕ × ℕ)

-- Sessions after a step. And what it tells, in this order: the sessions that were closed since nothing
-- touched them; of how many runs the face forgot before their time; and what the engine did, with a note of
-- each session that was closed after that.
pub record SessionsStep : Type 0 where
  pub sessions : Sessions
  pub gone : List ℕ
  pub forgotten : Option ℕ
  pub effects : EffectsValue

abbrev pub starts_sessions : FaceKeys → ℕ → List ℕ → Sessions
starts_sessions k now marks =
    record { engine = starts k.party; memory = remembers_from k now marks; moments = [] }

-- ---- sessions that are over

-- numbers are remembered, the last of them first
unfoldable pub with_closed : List ℕ → Memory → Memory
with_closed [] m = m
with_closed (n ∷ numbers) m = closed n (with_closed numbers m)

-- moments of sessions that are kept
abbrev pub still_kept : List (ℕ × Receiving) → List (ℕ × ℕ) → List (ℕ × ℕ)
still_kept receivers moments = filter (λ (entry : ℕ × ℕ). is_some (find entry.0 receivers)) moments

-- what an engine left: the numbers that it closed are remembered
abbrev pub left_by : Engine → Memory → List (ℕ × ℕ) → Sessions
left_by e m moments = record {
  engine = record e { closed = [] };
  memory = with_closed e.closed m;
  moments = still_kept e.receivers moments;
}

-- receiving sessions are closed, one after the other
unfoldable pub closes : List ℕ → Sessions → Sessions
closes [] s = s
closes (n ∷ numbers) s = closes numbers (left_by (with_receiver s.engine n ends) s.memory s.moments)

abbrev pub evictions : List ℕ → List Note
evictions numbers = map notes.Evicted numbers

-- ---- before each arrival and each tick

-- the receiving sessions that nothing touched for as long as a number is remembered, the longest untouched
-- first
abbrev pub stale : FaceKeys → ℕ → Sessions → List ℕ
stale k now s =
    map (λ (entry : ℕ × ℕ). entry.0) (filter (λ (entry : ℕ × ℕ). nat_le k.remember_ms (now - entry.1)) s.moments)

-- time has passed: a turn of the memory, where it is due; and then those are closed
abbrev pub passes : FaceKeys → ℕ → Sessions → Sessions
passes k now s = closes (stale k now s) (record s { memory = passed now s.memory })

-- ---- a segment of a session of the peer

-- what a receiving session has to know: whether its number is remembered. There is always a place for a new
-- one, since one is made.
abbrev pub admission_in : FaceKeys → Sessions → ℕ → Admission
admission_in k s n = record {
  session = n;
  most = (k.party).most;
  closed = is_remembered s.memory n;
  full = false;
}

-- a session is kept by a change
abbrev pub is_kept_by : Change Receiving → Bool
is_kept_by stays = false
is_kept_by (keeps r) = true
is_kept_by ends = false

-- by a step, if there is one, it is touched
abbrev pub is_touched : Option (StepValue Receiving) → Bool
is_touched None = false
is_touched (Some step) = is_kept_by step.next

-- a session opens: it wasn't kept, and is
abbrev pub is_opened : Option Receiving → Change Receiving → Bool
is_opened None (keeps r) = true
is_opened kept change = false

-- the session that makes room for one that opens, where as many are kept as may be
abbrev pub makes_room : FaceKeys → Engine → Bool → Option ℕ
makes_room k e false = None
makes_room k e true =
    if nat_le (k.bounds).sessions (length e.receivers) then longest_untouched e.touched e.receivers else None

abbrev pub peer_replies : FaceKeys → Engine → ℕ → Option (StepValue Receiving) → Option Reply
peer_replies k e n None = None
peer_replies k e n (Some step) =
    let gone : Option ℕ = makes_room k e (is_opened (find n e.receivers) step.next) in
    Some (record {
      engine = with_receiver (without_evicted e gone) n step.next;
      out = step.out;
      up = step.up;
      green = step.green;
      notes = list_of (option_map notes.Evicted gone) ++ notes_of n step;
    })

abbrev pub answer_to : FaceKeys → Sessions → SegmentValue → ℕ → Option (StepValue Receiving)
answer_to k s segment now =
    receiver_answers (k.party).policy (admission_in k s segment.session) (find segment.session (s.engine).receivers)
    segment.content now

-- the other segments are those of a stranger
unfoldable pub replies : FaceKeys → Sessions → SegmentValue → ℕ → Option Reply
replies k s segment now =
    if segment.originator == (k.party).own
    then (if is_used k.party s.engine segment.session then to_sender k.party s.engine segment now else None)
    else if segment.originator == (k.party).peer
    then peer_replies k s.engine segment.session (answer_to k s segment now)
    else None

-- ---- what is remembered then

-- a red piece of the bundle service, which may be one of a block of so many octets at most
abbrev pub may_open : ℕ → ContentValue → Bool
may_open most (a_piece piece) =
    is_red piece.kind && (piece.service == 1 && not (is_no_part most piece.offset piece.body))
may_open most (a_report report) = false
may_open most (a_report_ack serial) = false
may_open most (a_sender_cancel reason) = false
may_open most a_sender_cancel_ack = false
may_open most (a_receiver_cancel reason) = false
may_open most a_receiver_cancel_ack = false

-- the peer began the session
abbrev pub is_of_peer : FaceKeys → ℕ → Bool
is_of_peer k originator = originator == (k.party).peer && not (originator == (k.party).own)

-- a red piece came of a session of the peer that isn't kept: one that is remembered is touched, and for
-- another a place is made
abbrev pub met : FaceKeys → Sessions → SegmentValue → Bool
met k s segment =
    is_of_peer k segment.originator
    && (not (is_some (find segment.session (s.engine).receivers)) && may_open (k.party).most segment.content)

abbrev pub memory_met : FaceKeys → Sessions → SegmentValue → ℕ → Memory
memory_met k s segment now =
    if not (met k s segment) then s.memory
    else if is_remembered s.memory segment.session then touched segment.session now (length (s.engine).receivers) s.memory
    else if is_touched (answer_to k s segment now) then with_place now (length (s.engine).receivers) s.memory
    else s.memory

abbrev pub forgotten_met : FaceKeys → Sessions → SegmentValue → ℕ → Option ℕ
forgotten_met k s segment now =
    if not (met k s segment) then None
    else if is_remembered s.memory segment.session then forgotten_at s.memory segment.session (length (s.engine).receivers)
    else if is_touched (answer_to k s segment now) then forgotten_by s.memory (length (s.engine).receivers)
    else None

-- ---- moments

-- a session that is kept by a step was touched by it
abbrev pub moments_met : FaceKeys → Sessions → SegmentValue → ℕ → List (ℕ × ℕ)
moments_met k s segment now =
    if is_of_peer k segment.originator && is_touched (answer_to k s segment now)
    then without segment.session s.moments ++ (segment.session, now) ∷ []
    else s.moments

-- ---- too many octets

-- the sessions that are closed for want of memory: from the longest untouched on, while all that are still kept
-- have more octets than half the memory
unfoldable pub trimmed : ℕ → List ℕ → List (ℕ × Receiving) → List ℕ
trimmed most [] receivers = []
trimmed most (n ∷ numbers) receivers =
    if nat_lt most (cells_in receivers) then n ∷ trimmed most numbers (without n receivers) else []

abbrev pub to_trim : FaceKeys → Sessions → List ℕ
to_trim k s = trimmed (half k.bounds) (s.engine).touched (s.engine).receivers

-- ---- steps

-- what the engine does, and notes of sessions that were closed after that
abbrev pub then_noted : EffectsValue → List Note → EffectsValue
then_noted e remarks = record e { notes = e.notes ++ remarks }

-- a datagram comes: a segment, or refused at a place for a cause
abbrev pub answers : FaceKeys → Sessions → Result SegmentValue (ℕ × SegmentCause) → ℕ → EngineStep
answers k s (Err refusal) now = noted s.engine (notes.BadSegment refusal.0 refusal.1)
answers k s (Ok segment) now =
    replied_or_stranger s.engine (record { originator = segment.originator; number = segment.session })
    (replies k s segment now)

abbrev pub answered : FaceKeys → Sessions → Result SegmentValue (ℕ × SegmentCause) → ℕ → Sessions
answered k s (Err refusal) now = s
answered k s (Ok segment) now =
    left_by (answers k s (Ok segment) now).engine (memory_met k s segment now) (moments_met k s segment now)

abbrev pub forgets : FaceKeys → Sessions → Result SegmentValue (ℕ × SegmentCause) → ℕ → Option ℕ
forgets k s (Err refusal) now = None
forgets k s (Ok segment) now = forgotten_met k s segment now

-- a datagram comes to sessions for which time has passed
abbrev pub hears_after : FaceKeys → List ℕ → Sessions → Result SegmentValue (ℕ × SegmentCause) → ℕ → SessionsStep
hears_after k gone s read now = record {
  sessions = closes (to_trim k (answered k s read now)) (answered k s read now);
  gone = gone;
  forgotten = forgets k s read now;
  effects = then_noted (answers k s read now).effects (evictions (to_trim k (answered k s read now)));
}

unfoldable pub hears : FaceKeys → Sessions → Result SegmentValue (ℕ × SegmentCause) → ℕ → SessionsStep
hears k s read now = hears_after k (stale k now s) (passes k now s) read now

-- all sessions tick, once time has passed
abbrev pub ticks_after : FaceKeys → List ℕ → Sessions → ℕ → SessionsStep
ticks_after k gone s now = record {
  sessions = left_by (tick_step k.party s.engine now).engine s.memory s.moments;
  gone = gone;
  forgotten = None;
  effects = (tick_step k.party s.engine now).effects;
}

unfoldable pub ticks : FaceKeys → Sessions → ℕ → SessionsStep
ticks k s now = ticks_after k (stale k now s) (passes k now s) now

-- ---- a block begins

-- in the next session, all of it red
abbrev pub block_begins : FaceKeys → Engine → List ℕ → ℕ → EngineStep
block_begins k e block now =
    replied (record { originator = (k.party).own; number = e.next })
    (begun e (begin (k.party).policy e.next block (length block) now))

abbrev pub with_begun : Sessions → EngineStep → Sessions
with_begun s step = record s { engine = step.engine }

-- the octets of each block that is being sent
abbrev pub blocks_in : List (ℕ × Sending) → List ℕ
blocks_in senders = map (λ (entry : ℕ × Sending). length entry.1.block) senders
