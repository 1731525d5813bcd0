-- What a run keeps of an engine, and of the numbers that it closed.

use Rattle.std.specs.Prelude.{◌≡◌, ℕ, ◌≤◌, false, List}
use Rattle.ltp_session.specs.Engine.{Engine, Party}
use Rattle.ltp_session.specs.Table.{AreAscending}
use Rattle.ltp_laws.specs.Kept.{IfKept}
use Rattle.ltp_laws.specs.View.{View}

-- the sessions that are kept stand in the order of their numbers, no number twice; and the next
-- number isn't below the first
pub record IsWellFormed (p : Party) (e : Engine) : Type 0 where
  pub senders : AreAscending 0 e.senders
  pub receivers : AreAscending 0 e.receivers
  pub next : p.first ≤ e.next

-- nothing is kept of a receiver whose number is closed
pub record ClosedFacts (block : List ℕ) (red : ℕ) (v : View) : Type 0 where
  pub kept : IfKept (λ r. v.closed ≡ false) v.receiver
