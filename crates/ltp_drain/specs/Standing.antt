-- What a drain keeps of all sessions of a link.

use Rattle.std.specs.Prelude.{◌≡◌, ◌≢◌, ℕ, ◌+◌, ◌<◌, ◌≤◌, Bool, true, false, List, [], ◌∷◌}
use Rattle.std.specs.Prelude.{length, take, drop, Some, ◌⊎◌}
use Rattle.ltp_segment.specs.Values.{ContentValue}
use Rattle.ltp_segment.specs.declared.session.Note.TheVariants as notes
use Rattle.ltp_session.specs.Engine.{Party, closed_runs}
use Rattle.ltp_session.specs.Receiver.{Pending, Receiving}
use Rattle.ltp_session.specs.Sender.{Sending, segments_of, sending_timer}
use Rattle.ltp_session.specs.Table.{AreAscending}
use Rattle.ltp_session.specs.World.{End, Sent, World, at_end, first_end, other, second_end}
use Rattle.ltp_laws.specs.Serials.{pending_of}
use Rattle.ltp_laws.specs.View.{Unused, View, said, view}
use Rattle.ltp_drain.specs.Calm.{Advances, Drains, IsComing, Setting}
use Rattle.ltp_drain.specs.Draining.{Draining}
use Rattle.ltp_drain.specs.Effects.{EndEffects, IsHandedUp, IsNoted}
use Rattle.ltp_drain.specs.Hopeful.{sum_below}

-- there is room for each session that is coming
pub record IsRoomy (parties : Party × Party) (w : World) : Type 0 where
  pub room : (o : End) (n : ℕ) → IsComing (view parties w o n)
      → (length (at_end w.engines (other o)).receivers < (at_end parties (other o)).sessions)
      × (closed_runs (at_end w.engines (other o)).closed + length
      (at_end w.engines (other o)).receivers < (at_end parties (other o)).history)

-- ---- what a drain keeps

-- session n that p sends to q
abbrev pub setting_by : Party → Party → ℕ → ℕ → Setting
setting_by p q n red = record {
  session = n;
  red = red;
  z = (p.policy).segment;
  limit_s = (p.policy).limit;
  limit_r = (q.policy).limit;
  most = q.most;
}

abbrev pub setting : Party × Party → End → ℕ → ℕ → Setting
setting parties o n red = setting_by (at_end parties o) (at_end parties (other o)) n red

-- a begun session with its facts, that drains within so many events
pub record Standing (F : List ℕ → ℕ → View → Type 0) (set : ℕ → Setting) (v : View)
    (new_s new_r : List ContentValue) (m : ℕ) : Type 0 where
  pub block : List ℕ
  pub red : ℕ
  pub facts : F block red v
  pub drains : Drains (set red) v new_s new_r m

-- nothing is of a number, and nothing is new of it
pub record Idle (v : View) (new_s new_r : List ContentValue) : Type 0 where
  pub unused : Unused v
  pub none_s : new_s ≡ []
  pub none_r : new_r ≡ []

-- one of these, as the number was given to a session or not
abbrev pub StandsBy : (List ℕ → ℕ → View → Type 0) → (ℕ → Setting) → Bool → View
    → List ContentValue → List ContentValue → ℕ → Type 0
StandsBy F set false v new_s new_r m = Idle v new_s new_r
StandsBy F set true v new_s new_r m = Standing F set v new_s new_r m

abbrev pub Stands : (List ℕ → ℕ → View → Type 0) → (ℕ → Setting) → View → List ContentValue
    → List ContentValue → ℕ → Type 0
Stands F set v new_s new_r m = StandsBy F set v.used v new_s new_r m

-- each segment is of a session of one of the two
abbrev pub AreKnown : Party × Party → List Sent → Type 0
AreKnown parties [] = Unit {0}
AreKnown parties (d ∷ ds) = (((d.segment).originator ≡ (parties.0).own)
    ⊎ ((d.segment).originator ≡ (parties.1).own)) × AreKnown parties ds

-- every session stands, with its rank, and the engines are well formed
pub record DrainHolds (F : List ℕ → ℕ → View → Type 0) (parties : Party × Party) (d : Draining)
    (rank : End → ℕ → ℕ) : Type 0 where
  pub session : (o : End) (n : ℕ) → Stands F (setting parties o n) (view parties d.world o n)
      (said o (at_end parties o).own n d.new) (said (other o) (at_end parties o).own n d.new)
      (rank o n)
  pub senders : (o : End) → AreAscending 0 (at_end (d.world).engines o).senders
  pub receivers : (o : End) → AreAscending 0 (at_end (d.world).engines o).receivers
  pub next : (o : End) → (at_end parties o).first ≤ (at_end (d.world).engines o).next
  pub known : AreKnown parties d.new

-- ---- sums

-- the ranks of all sessions of a link that were begun
abbrev pub sum_of : World → (End → ℕ → ℕ) → ℕ
sum_of w rank = sum_below (at_end w.engines first_end).next (rank first_end) + sum_below
    (at_end w.engines second_end).next (rank second_end)

-- ---- what an event leaves of a drain

-- a clean event raises no rank, and lowers their sum
pub record Next (F : List ℕ → ℕ → View → Type 0) (parties : Party × Party) (d d' : Draining)
    (rank : End → ℕ → ℕ) : Type 0 where
  pub rank' : End → ℕ → ℕ
  pub holds : DrainHolds F parties d' rank'
  pub falls : sum_of d'.world rank' < sum_of d.world rank
  pub never_up : (o : End) (n : ℕ) → rank' o n ≤ rank o n

-- and it lowers that of session n of an originator
pub record NextOf (F : List ℕ → ℕ → View → Type 0) (parties : Party × Party) (d d' : Draining)
    (rank : End → ℕ → ℕ) (origin n : ℕ) : Type 0 where
  pub next : Next F parties d d' rank
  pub named : (o : End) → (at_end parties o).own ≡ origin → next.rank' o n < rank o n

-- the events that a session begun with this block takes at most
abbrev pub begun_rank : ℕ → List ℕ → ℕ → ℕ
begun_rank z block red = length (segments_of z 0 (take red block)) + length
    (segments_of z red (drop red block)) + 2

-- a submit leaves the ranks of the sessions begun before; the new one's is that of its segments
pub record AfterSubmit (F : List ℕ → ℕ → View → Type 0) (parties : Party × Party) (d : Draining)
    (rank : End → ℕ → ℕ) (end : End) (k : ℕ) (d' : Draining) : Type 0 where
  pub rank' : End → ℕ → ℕ
  pub holds : DrainHolds F parties d' rank'
  pub same : (o : End) (n : ℕ) → (o ≡ end → n ≢ (at_end (d.world).engines end).next)
      → rank' o n ≡ rank o n
  pub begun : rank' end (at_end (d.world).engines end).next ≤ k

-- a moment below every deadline of the link
pub record BelowDeadlines (parties : Party × Party) (w : World) (now : ℕ) : Type 0 where
  pub sender : (o : End) (n : ℕ) (s : Sending) → (view parties w o n).sender ≡ Some s
      → now < (sending_timer s.phase).deadline
  pub receiver : (o : End) (n : ℕ) (r : Receiving) (p : Pending)
      → (view parties w o n).receiver ≡ Some r → pending_of r.phase ≡ Some p
      → now < (p.timer).deadline

-- a deadline of session n of an end is over at a moment
pub data IsDueOf (parties : Party × Party) (w : World) (now : ℕ) (o : End) (n : ℕ) : Type 0 where
  due_sender : (s : Sending) → (view parties w o n).sender ≡ Some s
      → (sending_timer s.phase).deadline ≤ now → IsDueOf parties w now o n
  due_receiver : (r : Receiving) (p : Pending) → (view parties w o n).receiver ≡ Some r
      → pending_of r.phase ≡ Some p → (p.timer).deadline ≤ now → IsDueOf parties w now o n

-- after ticks of both ends where nothing was new, each rank is less by what its session sends
pub record TickedTo (F : List ℕ → ℕ → View → Type 0) (parties : Party × Party) (d' : Draining)
    (rank : End → ℕ → ℕ) : Type 0 where
  pub rank' : End → ℕ → ℕ
  pub holds : DrainHolds F parties d' rank'
  pub less :
      (o : End) (n : ℕ) → rank' o n + length (said o (at_end parties o).own n d'.new)
      + length (said (other o) (at_end parties o).own n d'.new) ≤ rank o n

-- what became of all sessions of a link, with these effects
abbrev pub AllAdvance : Party × Party → World → World → List EndEffects → Type 0
AllAdvance parties w w' es = (o : End) (n : ℕ)
    → Advances (view parties w o n) (view parties w' o n) (IsNoted es o (notes.Sent n))
    (IsHandedUp es (other o) n)
