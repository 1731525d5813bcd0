-- An engine of the code stands for an engine of the definition. They differ in the closed numbers
-- alone: the definition lists them as they came, and the code keeps them as a set.

use Rattle.std.specs.Prelude.{◌≡◌, ℕ, false, List, [], ◌∷◌}
use Rattle.ltp_session.specs.Engine.{Engine, is_closed, closed_runs}
use Rattle.ltp_engine.specs.Closed.{ClosedValue, is_among}
use Rattle.ltp_engine.specs.Values.{InboundValue, EngineValue}

-- no number stands twice
abbrev pub AreDistinct : List ℕ → Type 0
AreDistinct [] = Unit {0}
AreDistinct (n ∷ numbers) = (is_closed n numbers ≡ false) × AreDistinct numbers

-- these numbers, each of them once, are the closed ones
pub record ShowsClosed (c : ClosedValue) (closed : List ℕ) : Type 0 where
  pub each : (n : ℕ) → is_closed n closed ≡ is_among c n
  pub runs : closed_runs closed ≡ c.runs
  pub distinct : AreDistinct closed

pub record ShowsInbound (i : InboundValue) (e : Engine) : Type 0 where
  pub receivers : e.receivers ≡ i.receivers
  pub touched : e.touched ≡ i.touched
  pub closed : ShowsClosed i.closed e.closed

pub record Shows (v : EngineValue) (e : Engine) : Type 0 where
  pub next : e.next ≡ v.next
  pub senders : e.senders ≡ v.senders
  pub inbound : ShowsInbound v.inbound e
