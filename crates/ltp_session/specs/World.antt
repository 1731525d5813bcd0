-- A link: two engines, every segment that was ever sent, and a clock.

use Rattle.std.specs.Prelude.{◌≡◌, ◌≢◌, ℕ, ◌≤◌, nat_lt, nat_le, List, [], ◌∷◌, ◌++◌, length, map, Option, None, Some, Result, Ok, Err, slice_get, if◌then◌else◌}
use Rattle.ltp_segment.specs.Values.{SegmentValue}
use Rattle.ltp_session.specs.declared.name.SessionName.{SessionName}
use Rattle.ltp_session.specs.Views.{headed_all}
use Rattle.ltp_session.specs.Engine.{Party, Engine, starts, Reply, SubmitFault, arrives, submits, tick_engine, tick_out}

-- ---- ends

pub data End : Type 0 where
  first_end : End
  second_end : End

abbrev pub other : End → End
other first_end = second_end
other second_end = first_end

-- what belongs to an end, of two
abbrev pub at_end : {X : Type 0} → X × X → End → X
at_end pair first_end = pair.0
at_end pair second_end = pair.1

abbrev pub with_end : {X : Type 0} → X × X → End → X → X × X
with_end pair first_end x = (x, pair.1)
with_end pair second_end x = (pair.0, x)

-- ---- a world

-- a segment, and the end that sent it
pub record Sent : Type 0 where
  pub from : End
  pub segment : SegmentValue

-- the list of what was sent only grows: a segment that no event delivers is lost, and one that is
-- delivered again comes again
pub record World : Type 0 where
  pub engines : Engine × Engine
  pub sent : List Sent
  pub now : ℕ

abbrev pub starts_world : Party × Party → World
starts_world parties =
    record { engines = (starts parties.0, starts parties.1); sent = []; now = 0 }

-- an end submits a block, whose first octets, so many, are its red part; the k-th of all segments
-- comes to the end that didn't send it; or the clock is set
pub data Event : Type 0 where
  submit : End → List ℕ → ℕ → Event
  deliver : ℕ → Event
  clock : ℕ → Event

-- ---- steps

abbrev pub sent_by : End → List SegmentValue → List Sent
sent_by from segments = map (λ segment. record { from = from; segment = segment }) segments

-- an end's engine replies about a session
abbrev pub replies : World → End → SessionName → Option Reply → World
replies w end name None = w
replies w end name (Some reply) = record {
  engines = with_end w.engines end reply.engine;
  sent = w.sent ++ sent_by end (headed_all name reply.out);
  now = w.now;
}

abbrev pub unless_refused : Result Reply SubmitFault → Option Reply
unless_refused (Ok reply) = Some reply
unless_refused (Err fault) = None

abbrev pub submit_reply : Party × Party → World → End → List ℕ → ℕ → Option Reply
submit_reply parties w end block red =
    unless_refused (submits (at_end parties end) (at_end w.engines end) block red w.now)

-- a red part isn't longer than its block
unfoldable pub submitted : Party × Party → World → End → List ℕ → ℕ → World
submitted parties w end block red =
    if nat_le red (length block)
    then
    replies w end
    (record { originator = (at_end parties end).own; number = (at_end w.engines end).next })
    (submit_reply parties w end block red)
    else w

abbrev pub arrival : Party × Party → World → End → SegmentValue → World
arrival parties w end s =
    replies w end (record { originator = s.originator; number = s.session })
    (arrives (at_end parties end) (at_end w.engines end) s w.now)

abbrev pub delivered : Party × Party → World → Option Sent → World
delivered parties w None = w
delivered parties w (Some d) = arrival parties w (other d.from) d.segment

-- all sessions of an end tick
unfoldable pub ticks : Party × Party → ℕ → End → World → World
ticks parties now end w = record {
  engines = with_end w.engines end
      (tick_engine (at_end parties end) (at_end w.engines end) now);
  sent = w.sent ++ sent_by end (tick_out (at_end parties end) (at_end w.engines end) now);
  now = now;
}

-- a clock that would go back stays
abbrev pub happens : Party × Party → World → Event → World
happens parties w (submit end block red) = submitted parties w end block red
happens parties w (deliver k) = delivered parties w (slice_get w.sent k)
happens parties w (clock now) =
    if nat_lt now w.now then w
    else ticks parties now second_end (ticks parties now first_end w)

-- all that happens, in order
abbrev pub run : Party × Party → World → List Event → World
run parties w [] = w
run parties w (event ∷ events) = run parties (happens parties w event) events

-- two engines that name each other
pub record ArePeers (parties : Party × Party) : Type 0 where
  pub differ : parties.0.own ≢ parties.1.own
  pub first_knows : parties.0.peer ≡ parties.1.own
  pub second_knows : parties.1.peer ≡ parties.0.own
  pub first_cuts : 1 ≤ parties.0.policy.segment
  pub second_cuts : 1 ≤ parties.1.policy.segment
