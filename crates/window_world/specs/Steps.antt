-- What the calls of a link with windows promise: each is the link world's call at contact time.

use Rattle.std.specs.Prelude.{◌≡◌, ℕ, true, false, List, Result, Ok, Err}
use Rattle.ltp_engine.specs.declared.effects.Effects.{Effects}
use Rattle.ltp_engine.specs.declared.refused.SubmitRefused.TheVariants as causes
use Rattle.ltp_world.specs.declared.effects.EndEffects.{EndEffects}
use Rattle.ltp_world.specs.declared.ends.End.{End}
use Rattle.ltp_world.specs.declared.refused.DeliverRefused.TheVariants as refused
use Rattle.ltp_world.specs.Steps.{Delivers as LinkDelivers}
use Rattle.ltp_world.specs.Steps.{Submits as LinkSubmits}
use Rattle.ltp_world.specs.Steps.{Ticks as LinkTicks}
use Rattle.contact_plan.specs.Windows.{elapsed, is_open}
use Rattle.window_world.specs.declared.refused.WindowDeliver.{WindowDeliver}
use Rattle.window_world.specs.declared.refused.WindowDeliver.TheVariants as deliveries
use Rattle.window_world.specs.declared.refused.WindowSubmit.{WindowSubmit}
use Rattle.window_world.specs.declared.refused.WindowSubmit.TheVariants as submits
use Rattle.window_world.specs.Values.{WindowValue, later_of}

-- memory is there, and the plan and the moment are as they were
pub record Stays (old new : WindowValue) : Type 0 where
  pub whole : new.spent ≡ false
  pub plan : new.plan ≡ old.plan
  pub moment : new.moment ≡ old.moment

-- while the link is closed nothing is submitted; else it is the link world's call
abbrev pub Submits :
    WindowValue → WindowValue → End → List ℕ → ℕ → Result Effects WindowSubmit → Type 0
Submits old new end block red (Ok effects) =
    (is_open old.plan old.moment ≡ true) × Stays old new
    × LinkSubmits old.link new.link end block red (Ok effects)
Submits old new end block red (Err submits.Closed) =
    (is_open old.plan old.moment ≡ false) × (new ≡ old)
Submits old new end block red (Err (submits.Refused causes.Memory)) =
    (is_open old.plan old.moment ≡ true) × (new.spent ≡ true)
    × LinkSubmits old.link new.link end block red (Err causes.Memory)
Submits old new end block red (Err (submits.Refused cause)) =
    (is_open old.plan old.moment ≡ true) × (new ≡ old)
    × LinkSubmits old.link new.link end block red (Err cause)

-- while the link is closed nothing is delivered; else it is the link world's call
abbrev pub Delivers : WindowValue → WindowValue → ℕ → Result EndEffects WindowDeliver → Type 0
Delivers old new k (Ok told) =
    (is_open old.plan old.moment ≡ true) × Stays old new × LinkDelivers old.link new.link k (Ok told)
Delivers old new k (Err deliveries.Closed) =
    (is_open old.plan old.moment ≡ false) × (new ≡ old)
Delivers old new k (Err (deliveries.Refused refused.NoSuchDatagram)) =
    (is_open old.plan old.moment ≡ true) × (new ≡ old)
    × LinkDelivers old.link new.link k (Err refused.NoSuchDatagram)
Delivers old new k (Err (deliveries.Refused refused.Memory)) =
    (is_open old.plan old.moment ≡ true) × (new.spent ≡ true)
    × LinkDelivers old.link new.link k (Err refused.Memory)

-- the link world's clock is set to the contact time of the moment; a clock that would go back stays
pub record Ticks (old new : WindowValue) (now : ℕ) (told : List EndEffects) : Type 0 where
  pub whole : new.spent ≡ false
  pub link : LinkTicks old.link new.link (elapsed old.plan now) told
  pub plan : new.plan ≡ old.plan
  pub moment : new.moment ≡ later_of old.moment now
