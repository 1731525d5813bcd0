-- When a red part is handed up (RFC 5326, section 6.9).

use Rattle.std.specs.Prelude.{◌≡◌, ℕ, ◌<◌, true, List, Option, None, Some, is_some}
use Rattle.ltp_session.specs.Cells.{cell}
use Rattle.ltp_session.specs.Engine.{Party, Reply, arrives}
use Rattle.ltp_session.specs.Receiver.{Receiving}
use Rattle.ltp_session.specs.World.{Sent, World, at_end, other}
use Rattle.ltp_laws.specs.Kept.{IfKept}
use Rattle.ltp_laws.specs.View.{View}

-- every place below a bound has an octet
abbrev pub AllFilled : ℕ → List (Option ℕ) → Type 0
AllFilled bound cells = (k : ℕ) → k < bound → is_some (cell cells k) ≡ true

-- a receiver has handed its red part up if and only if the length is known and all of it came
pub record HasHandedUp (red : ℕ) (r : Receiving) : Type 0 where
  pub only : r.handed_up ≡ true → (r.length ≡ Some red) × AllFilled red r.cells
  pub there : r.length ≡ Some red → AllFilled red r.cells → r.handed_up ≡ true

pub record HandUpFacts (block : List ℕ) (red : ℕ) (v : View) : Type 0 where
  pub handed : IfKept (HasHandedUp red) v.receiver

-- what a reply hands up
abbrev pub up_of : Option Reply → Option (List ℕ)
up_of None = None
up_of (Some reply) = reply.up

-- what the delivery of a segment hands up
abbrev pub up_by : Party × Party → World → Sent → Option (List ℕ)
up_by parties w d =
    up_of
    (arrives (at_end parties (other d.from)) (at_end w.engines (other d.from)) d.segment w.now)
