-- Why a block isn't submitted, and why a datagram isn't delivered, where a link has windows.

use Rattle.std.specs.Prelude.{ℕ, List, codes}
use Rattle.ltp_engine.specs.Refused.{submit_word as engine_word}
use Rattle.ltp_world.specs.Refused.{deliver_word as link_word}
use Rattle.window_world.specs.declared.refused.WindowDeliver.{WindowDeliver}
use Rattle.window_world.specs.declared.refused.WindowDeliver.TheVariants as deliveries
use Rattle.window_world.specs.declared.refused.WindowSubmit.{WindowSubmit}
use Rattle.window_world.specs.declared.refused.WindowSubmit.TheVariants as submits

abbrev pub submit_word : WindowSubmit → List ℕ
submit_word submits.Closed = codes "Closed"
submit_word (submits.Refused cause) = engine_word cause

abbrev pub deliver_word : WindowDeliver → List ℕ
deliver_word deliveries.Closed = codes "Closed"
deliver_word (deliveries.Refused cause) = link_word cause
