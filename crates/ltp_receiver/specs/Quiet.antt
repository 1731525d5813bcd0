-- Which steps of a receiving session want no memory.

use Rattle.std.specs.Prelude.{◌≡◌, ℕ, List, [], Option, None}
use Rattle.std.specs.Option.{option_map}
use Rattle.ltp_session.specs.Step.{StepValue, after}
use Rattle.ltp_session.specs.Receiver.{Receiving}

-- the octets that came of a session, where it is kept
abbrev pub kept_cells : Option Receiving → Option (List (Option ℕ))
kept_cells kept = option_map (λ r. r.cells) kept

-- a step that sends nothing and hands nothing up, and with which a session neither begins nor ends,
-- nor has an octet more; it may note something
pub record IsQuietStep (kept : Option Receiving) (step : StepValue Receiving) : Type 0 where
  pub out : step.out ≡ []
  pub up : step.up ≡ None
  pub green : step.green ≡ None
  pub octets : kept_cells (after step.next kept) ≡ kept_cells kept
