-- The rank of each session of a link that drains: how many events it still takes, at most.

use Rattle.std.specs.Prelude.{◌≡◌, ℕ, ◌<◌, ◌≤◌, true, List, [], ◌∷◌, None, Some, ◌⊎◌}
use Rattle.ltp_session.specs.Engine.{Party}
use Rattle.ltp_session.specs.Receiver.{Receiving, receiver_deadline}
use Rattle.ltp_session.specs.Sender.{Sending, sender_deadline}
use Rattle.ltp_session.specs.World.{End, World, at_end, other}
use Rattle.ltp_laws.specs.View.{View, said, view}
use Rattle.ltp_drain.specs.Completion.{IsReady}
use Rattle.ltp_drain.specs.Draining.{Draining, DrainStep, MayHappen, Oldest, after_step}
use Rattle.ltp_drain.specs.Draining.{begins_at, oldest, sets_clock, submits_block, takes_oldest}
use Rattle.ltp_drain.specs.Hopeful.{session_cost}

-- a session without a timer: its sender isn't kept, and no timer of its receiver runs
pub record HasNoTimer (v : View) : Type 0 where
  pub sender : v.sender ≡ None
  pub receiver : (r : Receiving) → v.receiver ≡ Some r → receiver_deadline r ≡ None

-- nothing is new of session n of an end, and no timer of it runs
pub record IsAtRest (parties : Party × Party) (d : Draining) (o : End) (n : ℕ) : Type 0 where
  pub by_sender : said o (at_end parties o).own n d.new ≡ []
  pub by_receiver : said (other o) (at_end parties o).own n d.new ≡ []
  pub timers : HasNoTimer (view parties d.world o n)

-- these are ranks, in a drain that began in w: none is above its session's cost, and a session of
-- rank 0 is at rest
pub record AreRanks (parties : Party × Party) (w : World) (d : Draining) (rank : End → ℕ → ℕ)
    : Type 0 where
  pub within : (o : End) (n : ℕ) → rank o n ≤ session_cost parties w d.world o n
  pub rests : (o : End) (n : ℕ) → rank o n ≡ 0 → IsAtRest parties d o n

-- a timer of a session is due at a moment
abbrev pub IsDueBy : ℕ → View → Type 0
IsDueBy now v =
    ((s : Sending) × (t : ℕ) × (v.sender ≡ Some s) × (sender_deadline s ≡ Some t) × (t ≤ now))
    ⊎ ((r : Receiving) × (t : ℕ) × (v.receiver ≡ Some r) × (receiver_deadline r ≡ Some t)
    × (t ≤ now))

-- a delivery lowers the rank of its session, a clock that of each session of which a timer fires,
-- and neither raises any; a submit raises that of no session begun before
abbrev pub RanksFall : Party × Party → Draining → (End → ℕ → ℕ) → (End → ℕ → ℕ) → DrainStep
    → Type 0
RanksFall parties d rank rank' (takes_oldest from) =
    ((o : End) (n : ℕ) → rank' o n ≤ rank o n)
    × ((x : Oldest) → oldest from d.new ≡ Some x
    → (o : End) × ((at_end parties o).own ≡ x.first.segment.originator)
    × (rank' o x.first.segment.session < rank o x.first.segment.session))
RanksFall parties d rank rank' (sets_clock now) =
    ((o : End) (n : ℕ) → rank' o n ≤ rank o n)
    × ((o : End) (n : ℕ) → IsDueBy now (view parties d.world o n) → rank' o n < rank o n)
RanksFall parties d rank rank' (submits_block end block red) =
    (o : End) (n : ℕ) → (view parties d.world o n).used ≡ true → rank' o n ≤ rank o n

-- ---- after steps

-- a drain after steps, of which the latest comes first
abbrev pub after_steps : Party × Party → Draining → List DrainStep → Draining
after_steps parties d [] = d
after_steps parties d (step ∷ earlier) =
    after_step parties (after_steps parties d earlier) step

-- each of them may happen after those before it
abbrev pub MayFollow : Party × Party → Draining → List DrainStep → Type 0
MayFollow parties d [] = Unit {0}
MayFollow parties d (step ∷ earlier) =
    MayFollow parties d earlier × MayHappen parties (after_steps parties d earlier) step

-- a rank of each session after any steps that may follow a world; it is settled by these steps,
-- whatever follows them, and falls with the next one
pub record HasRanks (parties : Party × Party) (w : World) : Type 0 where
  pub rank : (steps : List DrainStep) → MayFollow parties (begins_at w) steps → End → ℕ → ℕ
  pub are :
      (steps : List DrainStep) (may : MayFollow parties (begins_at w) steps)
      → AreRanks parties w (after_steps parties (begins_at w) steps) (rank steps may)
  pub fall :
      (step : DrainStep) (earlier : List DrainStep)
      (may : MayFollow parties (begins_at w) earlier)
      (next : MayHappen parties (after_steps parties (begins_at w) earlier) step)
      → RanksFall parties (after_steps parties (begins_at w) earlier) (rank earlier may)
      (rank (step ∷ earlier) (may, next)) step

-- from a world that is ready
abbrev pub SessionsHaveRanks : Type 0
SessionsHaveRanks =
    (parties : Party × Party) (w : World) → IsReady parties w → HasRanks parties w
