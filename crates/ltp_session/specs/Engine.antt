-- An engine of a link: all sessions that it sends and receives. What it does
-- about a session is what the session does; the rest is keeping.

use Rattle.std.specs.Prelude.{ℕ, pred, ◌+◌, ◌^◌, Bool, not, ◌==◌, ◌&&◌, ◌||◌, nat_lt, nat_le, min, List, [], ◌∷◌, ◌++◌, length, Option, None, Some, Result, Ok, Err, if◌then◌else◌}
use Rattle.std.specs.List.{list_any, count_by}
use Rattle.std.specs.Option.{option_map}
use Rattle.ltp_segment.specs.declared.fault.SegmentCause.{SegmentCause}
use Rattle.ltp_segment.specs.declared.session.Note.{Note}
use Rattle.ltp_segment.specs.declared.session.Note.TheVariants as notes
use Rattle.ltp_segment.specs.declared.session.Green.{Green}
use Rattle.ltp_segment.specs.Values.{ContentValue, SegmentValue}
use Rattle.ltp_segment.specs.Policy.{PolicyValue}
use Rattle.ltp_session.specs.declared.name.SessionName.{SessionName}
use Rattle.ltp_session.specs.Step.{Change, stays, keeps, ends, StepValue, GreenValue}
use Rattle.ltp_session.specs.Views.{headed_all, note_of, green_view}
use Rattle.ltp_session.specs.Sender.{Sending, begin, sender_answers, sender_tick, sender_deadline}
use Rattle.ltp_session.specs.Receiver.{Receiving, Admission, receiver_answers, receiver_tick, receiver_deadline}
use Rattle.ltp_session.specs.Table.{find, put, without, settled, ticked, ended}

-- what never changes: the engine's number and its peer's, its first session's number, how it sends,
-- and the greatest length of a block; how many sessions are sent at once and how many received; and
-- how many runs of consecutive closed numbers are remembered
pub record Party : Type 0 where
  pub own : ℕ
  pub peer : ℕ
  pub first : ℕ
  pub policy : PolicyValue
  pub most : ℕ
  pub sessions : ℕ
  pub history : ℕ

-- the number of the next session; the sessions that are kept, by their numbers; the receiving ones
-- from the longest untouched to the last touched; and the closed receiving numbers
pub record Engine : Type 0 where
  pub next : ℕ
  pub senders : List (ℕ × Sending)
  pub receivers : List (ℕ × Receiving)
  pub touched : List ℕ
  pub closed : List ℕ

-- an engine at its beginning
abbrev pub starts : Party → Engine
starts p = record { next = p.first; senders = []; receivers = []; touched = []; closed = [] }

-- what an engine does about one session: the engine after it, what is sent in that session, what
-- is handed up, and notes
pub record Reply : Type 0 where
  pub engine : Engine
  pub out : List ContentValue
  pub up : Option (List ℕ)
  pub green : Option GreenValue
  pub notes : List Note

-- something that may be there, as a list
abbrev pub list_of : {X : Type 0} → Option X → List X
list_of None = []
list_of (Some x) = x ∷ []

-- the notes of a step of session n
abbrev pub notes_of : {S : Type 0} → ℕ → StepValue S → List Note
notes_of n step = list_of (option_map (note_of n) step.note)

-- ---- sending sessions

-- the number was given to a session
abbrev pub is_used : Party → Engine → ℕ → Bool
is_used p e n = nat_le p.first n && nat_lt n e.next

abbrev pub with_sender : Engine → ℕ → Change Sending → Engine
with_sender e n change = record e { senders = settled n change e.senders }

-- a sender hands nothing up
abbrev pub sender_replies : Engine → ℕ → Option (StepValue Sending) → Option Reply
sender_replies e n None = None
sender_replies e n (Some step) = Some (record {
  engine = with_sender e n step.next;
  out = step.out;
  up = None;
  green = None;
  notes = notes_of n step;
})

-- ---- receiving sessions

abbrev pub is_closed : ℕ → List ℕ → Bool
is_closed n closed = list_any (λ m. m == n) closed

-- how many runs of consecutive closed numbers there are
unfoldable pub closed_runs : List ℕ → ℕ
closed_runs closed = count_by (λ n. (n == 0) || not (is_closed (pred n) closed)) closed

unfoldable pub untouched : ℕ → List ℕ → List ℕ
untouched n [] = []
untouched n (m ∷ numbers) = if m == n then untouched n numbers else m ∷ untouched n numbers

-- a session that is kept was touched; one that is over is closed
unfoldable pub with_receiver : Engine → ℕ → Change Receiving → Engine
with_receiver e n stays = e
with_receiver e n (keeps r) = record e {
  receivers = put n r e.receivers;
  touched = untouched n e.touched ++ n ∷ [];
}
with_receiver e n ends = record e {
  receivers = without n e.receivers;
  touched = untouched n e.touched;
  closed = n ∷ e.closed;
}

-- the session that is longest untouched, where it is kept
abbrev pub longest_untouched : List ℕ → List (ℕ × Receiving) → Option ℕ
longest_untouched [] receivers = None
longest_untouched (n ∷ numbers) receivers = option_map (λ r. n) (find n receivers)

-- the session that makes room for another: there is one where as many are kept as may be
unfoldable pub evicted_of : Party → Engine → Option ℕ
evicted_of p e =
    if nat_le p.sessions (length e.receivers) then longest_untouched e.touched e.receivers else None

-- the session that is evicted, where one that wasn't kept opens
abbrev pub evicted_by : Party → Engine → Option Receiving → Change Receiving → Option ℕ
evicted_by p e None (keeps r) = evicted_of p e
evicted_by p e kept change = None

abbrev pub without_evicted : Engine → Option ℕ → Engine
without_evicted e None = e
without_evicted e (Some n) = with_receiver e n ends

abbrev pub receiver_replies : Party → Engine → ℕ → Option (StepValue Receiving) → Option Reply
receiver_replies p e n None = None
receiver_replies p e n (Some step) =
    let gone : Option ℕ = evicted_by p e (find n e.receivers) step.next in
    Some (record {
      engine = with_receiver (without_evicted e gone) n step.next;
      out = step.out;
      up = step.up;
      green = step.green;
      notes = list_of (option_map notes.Evicted gone) ++ notes_of n step;
    })

-- what a receiving session has to know of its engine: the record of closed numbers is full where
-- its runs and the kept receiving sessions together are as many as are remembered, or more
abbrev pub admission_of : Party → Engine → ℕ → Admission
admission_of p e n = record {
  session = n;
  most = p.most;
  closed = is_closed n e.closed;
  full = nat_le p.history (closed_runs e.closed + length e.receivers);
}

-- ---- a segment arrives

-- a segment of a session that the engine began
abbrev pub to_sender : Party → Engine → SegmentValue → ℕ → Option Reply
to_sender p e s now =
    sender_replies e s.session
    (sender_answers p.policy (find s.session e.senders) s.content now)

-- a segment of a session that its peer began
abbrev pub to_receiver : Party → Engine → SegmentValue → ℕ → Option Reply
to_receiver p e s now =
    receiver_replies p e s.session
    (receiver_answers p.policy (admission_of p e s.session) (find s.session e.receivers) s.content now)

-- a segment has no reply where it is neither an answer to a session that this engine began, nor what
-- the sender of a session of its peer sends
unfoldable pub arrives : Party → Engine → SegmentValue → ℕ → Option Reply
arrives p e s now =
    if s.originator == p.own
    then (if is_used p e s.session then to_sender p e s now else None)
    else if s.originator == p.peer then to_receiver p e s now
    else None

-- ---- a block is submitted

-- why a block isn't sent: it has no octet; it is longer than the greatest block; no session number
-- is left; as many sessions are being sent as may be
pub data SubmitFault : Type 0 where
  block_empty : SubmitFault
  block_too_large : SubmitFault
  numbers_spent : SubmitFault
  senders_busy : SubmitFault

-- the first of these that holds
abbrev pub submit_fault : Party → Engine → List ℕ → Option SubmitFault
submit_fault p e block =
    if length block == 0 then Some block_empty
    else if nat_lt p.most (length block) then Some block_too_large
    else if nat_le (2 ^ 32) e.next then Some numbers_spent
    else if nat_le p.sessions (length e.senders) then Some senders_busy
    else None

-- a session begins with the next number
abbrev pub begun : Engine → StepValue Sending → Reply
begun e step = record {
  engine = record (with_sender e e.next step.next) { next = e.next + 1 };
  out = step.out;
  up = None;
  green = None;
  notes = notes_of e.next step;
}

abbrev pub submits_unless :
    Option SubmitFault → Party → Engine → List ℕ → ℕ → ℕ → Result Reply SubmitFault
submits_unless (Some fault) p e block red now = Err fault
submits_unless None p e block red now = Ok (begun e (begin p.policy e.next block red now))

-- a block whose first `red` octets are its red part
unfoldable pub submits :
    Party → Engine → List ℕ → ℕ → ℕ → Result Reply SubmitFault
submits p e block red now = submits_unless (submit_fault p e block) p e block red now

-- ---- all sessions tick: the sending ones in ascending order, then the receiving ones

abbrev pub sender_ticks : Party → ℕ → Sending → StepValue Sending
sender_ticks p now s = sender_tick p.policy s now

abbrev pub receiver_ticks : Party → ℕ → Receiving → StepValue Receiving
receiver_ticks p now r = receiver_tick p.policy r now

abbrev pub sender_changes : Party → ℕ → Sending → Change Sending
sender_changes p now s = (sender_ticks p now s).next

abbrev pub receiver_changes : Party → ℕ → Receiving → Change Receiving
receiver_changes p now r = (receiver_ticks p now r).next

abbrev pub untouched_all : List ℕ → List ℕ → List ℕ
untouched_all [] touched = touched
untouched_all (n ∷ numbers) touched = untouched n (untouched_all numbers touched)

abbrev pub tick_engine : Party → Engine → ℕ → Engine
tick_engine p e now = record {
  next = e.next;
  senders = ticked (sender_changes p now) e.senders;
  receivers = ticked (receiver_changes p now) e.receivers;
  touched = untouched_all (ended (receiver_changes p now) e.receivers) e.touched;
  closed = ended (receiver_changes p now) e.receivers ++ e.closed;
}

-- what the sessions of an originator send
unfoldable pub tick_segments :
    {S : Type 0} → (S → StepValue S) → ℕ → List (ℕ × S) → List SegmentValue
tick_segments tick originator [] = []
tick_segments tick originator (entry ∷ entries) =
    headed_all (record { originator = originator; number = entry.0 }) (tick entry.1).out
    ++ tick_segments tick originator entries

-- what they note
unfoldable pub tick_remarks : {S : Type 0} → (S → StepValue S) → List (ℕ × S) → List Note
tick_remarks tick [] = []
tick_remarks tick (entry ∷ entries) =
    notes_of entry.0 (tick entry.1) ++ tick_remarks tick entries

abbrev pub tick_out : Party → Engine → ℕ → List SegmentValue
tick_out p e now =
    tick_segments (sender_ticks p now) p.own e.senders
    ++ tick_segments (receiver_ticks p now) p.peer e.receivers

abbrev pub tick_notes : Party → Engine → ℕ → List Note
tick_notes p e now =
    tick_remarks (sender_ticks p now) e.senders
    ++ tick_remarks (receiver_ticks p now) e.receivers

-- ---- the whole answer of an engine

-- a red part that is handed up
pub record UpValue : Type 0 where
  pub session : ℕ
  pub body : List ℕ

-- segments that are to be sent, red parts and green pieces that are handed up, and notes
pub record EffectsValue : Type 0 where
  pub out : List SegmentValue
  pub ups : List UpValue
  pub greens : List Green
  pub notes : List Note

-- the engine after a step, and the effects
pub record EngineStep : Type 0 where
  pub engine : Engine
  pub effects : EffectsValue

-- only a note
abbrev pub noted : Engine → Note → EngineStep
noted e note = record {
  engine = e;
  effects = record { out = []; ups = []; greens = []; notes = note ∷ [] };
}

-- a reply about a session
abbrev pub replied : SessionName → Reply → EngineStep
replied name reply = record {
  engine = reply.engine;
  effects = record {
    out = headed_all name reply.out;
    ups = list_of (option_map (λ body. record { session = name.number; body = body }) reply.up);
    greens = list_of (option_map (green_view name.number) reply.green);
    notes = reply.notes;
  };
}

-- a reply, or else a stranger's segment is noted
abbrev pub replied_or_stranger : Engine → SessionName → Option Reply → EngineStep
replied_or_stranger e name None = noted e notes.Stranger
replied_or_stranger e name (Some reply) = replied name reply

-- a datagram arrives: a segment, or refused at a place for a cause
unfoldable pub datagram_step :
    Party → Engine → Result SegmentValue (ℕ × SegmentCause) → ℕ → EngineStep
datagram_step p e (Err refusal) now = noted e (notes.BadSegment refusal.0 refusal.1)
datagram_step p e (Ok s) now =
    replied_or_stranger e (record { originator = s.originator; number = s.session })
    (arrives p e s now)

-- a block is submitted
abbrev pub submit_step :
    Party → Engine → Result Reply SubmitFault → Result EngineStep SubmitFault
submit_step p e (Err fault) = Err fault
submit_step p e (Ok reply) =
    Ok (replied (record { originator = p.own; number = e.next }) reply)

-- all sessions tick
unfoldable pub tick_step : Party → Engine → ℕ → EngineStep
tick_step p e now = record {
  engine = tick_engine p e now;
  effects = record {
    out = tick_out p e now;
    ups = [];
    greens = [];
    notes = tick_notes p e now;
  };
}

-- ---- deadlines

-- the earlier of two moments, where there are any
abbrev pub earlier : Option ℕ → Option ℕ → Option ℕ
earlier None second = second
earlier (Some first) None = Some first
earlier (Some first) (Some second) = Some (min first second)

-- the least deadline of some sessions
unfoldable pub least_deadline : {S : Type 0} → (S → Option ℕ) → List (ℕ × S) → Option ℕ
least_deadline deadline [] = None
least_deadline deadline (entry ∷ entries) =
    earlier (deadline entry.1) (least_deadline deadline entries)

-- when a timer of the engine is due next
abbrev pub next_deadline : Engine → Option ℕ
next_deadline e =
    earlier (least_deadline sender_deadline e.senders)
    (least_deadline receiver_deadline e.receivers)
