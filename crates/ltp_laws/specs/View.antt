-- One session of a link: what its two engines keep of it, and what each end said in it.

use Rattle.std.specs.Prelude.{◌≡◌, ℕ, Bool, true, false, ◌==◌, ◌&&◌, List, [], ◌∷◌, ◌++◌, Option}
use Rattle.std.specs.Prelude.{None, ◌⊎◌, if◌then◌else◌}
use Rattle.ltp_segment.specs.Values.{ContentValue}
use Rattle.ltp_session.specs.declared.name.SessionName.{SessionName}
use Rattle.ltp_session.specs.Engine.{Engine, Party, is_closed, is_used}
use Rattle.ltp_session.specs.Receiver.{Receiving}
use Rattle.ltp_session.specs.Sender.{Sending}
use Rattle.ltp_session.specs.Step.{Change, StepValue, after, ends, keeps, stays}
use Rattle.ltp_session.specs.Table.{find}
use Rattle.ltp_session.specs.World.{End, Sent, World, at_end, first_end, other, second_end}

-- session n of an originator
abbrev pub session_of : ℕ → ℕ → SessionName
session_of originator n = record { originator = originator; number = n }

-- ---- what was said

abbrev pub same_end : End → End → Bool
same_end first_end first_end = true
same_end second_end second_end = true
same_end first_end second_end = false
same_end second_end first_end = false

-- a segment that an end sent in a session
abbrev pub is_of : End → ℕ → ℕ → Sent → Bool
is_of from originator n sent =
    same_end sent.from from
    && (sent.segment.originator == originator) && (sent.segment.session == n)

-- the contents that an end sent in a session, in order
unfoldable pub said : End → ℕ → ℕ → List Sent → List ContentValue
said from originator n [] = []
said from originator n (d ∷ ds) =
    if is_of from originator n d then d.segment.content ∷ said from originator n ds
    else said from originator n ds

-- something is in a list
abbrev pub IsIn : {X : Type 0} → X → List X → Type 0
IsIn x [] = ⊥
IsIn x (y ∷ ys) = (y ≡ x) ⊎ IsIn x ys

-- ---- a view

-- whether the number was given to a session; what is kept of its sender and of its receiver;
-- whether the receiver closed the number; and what either of them said
pub record View : Type 0 where
  pub used : Bool
  pub sender : Option Sending
  pub receiver : Option Receiving
  pub closed : Bool
  pub by_sender : List ContentValue
  pub by_receiver : List ContentValue

-- session n of the party p, whose engine is e; f is the engine of the other end
abbrev pub view_by : End → End → Party → Engine → Engine → List Sent → ℕ → View
view_by me you p e f sent n = record {
  used = is_used p e n;
  sender = find n e.senders;
  receiver = find n f.receivers;
  closed = is_closed n f.closed;
  by_sender = said me p.own n sent;
  by_receiver = said you p.own n sent;
}

-- session n that an end sends
abbrev pub view : Party × Party → World → End → ℕ → View
view parties w o n =
    view_by o (other o) (at_end parties o)
    (at_end w.engines o) (at_end w.engines (other o)) w.sent n

-- nothing is kept of a number, and nothing was said in its session
pub record Unused (v : View) : Type 0 where
  pub sender : v.sender ≡ None
  pub receiver : v.receiver ≡ None
  pub closed : v.closed ≡ false
  pub by_sender : v.by_sender ≡ []
  pub by_receiver : v.by_receiver ≡ []

-- a session in which nothing happened yet
abbrev pub untouched_view : View
untouched_view = record {
  used = false;
  sender = None;
  receiver = None;
  closed = false;
  by_sender = [];
  by_receiver = [];
}

-- ---- what events do to it

abbrev pub closed_after : Change Receiving → Bool → Bool
closed_after stays closed = closed
closed_after (keeps r) closed = closed
closed_after ends closed = true

-- it begins
abbrev pub begins : View → StepValue Sending → View
begins v t = record v {
  used = true;
  sender = after t.next v.sender;
  by_sender = v.by_sender ++ t.out;
}

-- its sender takes a step
abbrev pub sender_moves : View → StepValue Sending → View
sender_moves v t = record v {
  sender = after t.next v.sender;
  by_sender = v.by_sender ++ t.out;
}

-- its receiver takes a step
abbrev pub receiver_moves : View → StepValue Receiving → View
receiver_moves v t = record v {
  receiver = after t.next v.receiver;
  closed = closed_after t.next v.closed;
  by_receiver = v.by_receiver ++ t.out;
}

-- its receiver is closed to make room for another
abbrev pub evicted : View → View
evicted v = record v { receiver = None; closed = true }
