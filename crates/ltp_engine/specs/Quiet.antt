-- Which datagrams want no memory of an engine, whoever sent them.

use Rattle.std.specs.Prelude.{◌≡◌, ℕ, ◌≤◌, List, [], length, Option}
use Rattle.ltp_session.specs.Table.{find}
use Rattle.ltp_session.specs.Engine.{Engine, EngineStep}
use Rattle.ltp_receiver.specs.Quiet.{kept_cells}
use Rattle.ltp_engine.specs.Values.{EngineValue}
use Rattle.ltp_engine.specs.Shows.{Shows}

-- the octets that came of a receiving session, where it is kept
abbrev pub cells_at : ℕ → Engine → Option (List (Option ℕ))
cells_at n e = kept_cells (find n e.receivers)

-- a step that sends nothing and hands nothing up, that notes one thing at most, and with which no
-- receiving session begins or ends, nor has an octet more
pub record IsQuiet (e : Engine) (step : EngineStep) : Type 0 where
  pub out : step.effects.out ≡ []
  pub ups : step.effects.ups ≡ []
  pub greens : step.effects.greens ≡ []
  pub notes : length step.effects.notes ≤ 1
  pub octets : (n : ℕ) → cells_at n step.engine ≡ cells_at n e

-- the step is quiet for no engine of the definition that a value stands for
abbrev pub IsNeverQuiet : EngineValue → (Engine → EngineStep) → Type 0
IsNeverQuiet v step = (e : Engine) → Shows v e → IsQuiet e (step e) → ⊥
