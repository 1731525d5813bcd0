-- A face as the code keeps it.

use Rattle.std.specs.Prelude.{◌≡◌, ℕ, Bool, List, map}
use Rattle.std.specs.Option.{is_some}
use Rattle.contact_plan.specs.declared.window.Window.{Window}
use Rattle.outbox.specs.Outbox.{OutboxValue}

abbrev pub end_in : Window → ℕ
end_in window = window.to

-- it has at hand when each contact ends, and whether the clocks were read
pub record IsKeptFace (outbox : OutboxValue) (ends : List ℕ) (read : Bool) : Type 0 where
  pub ends_are : ends ≡ map end_in (outbox.schedule).windows
  pub read_is : read ≡ is_some outbox.reading
