-- Why a datagram isn't delivered, and why a drain stops before its end.

use Rattle.std.specs.Prelude.{ℕ, List, codes}
use Rattle.ltp_world.specs.declared.refused.DeliverRefused.{DeliverRefused}
use Rattle.ltp_world.specs.declared.refused.DeliverRefused.TheVariants as causes
use Rattle.ltp_world.specs.declared.refused.DrainRefused.{DrainRefused}
use Rattle.ltp_world.specs.declared.refused.DrainRefused.TheVariants as drain_causes

abbrev pub deliver_word : DeliverRefused → List ℕ
deliver_word causes.NoSuchDatagram = codes "NoSuchDatagram"
deliver_word causes.Memory = codes "Memory"

abbrev pub drain_word : DrainRefused → List ℕ
drain_word drain_causes.TooLate = codes "TooLate"
drain_word drain_causes.Memory = codes "Memory"
