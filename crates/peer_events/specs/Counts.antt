-- The sessions that began, in the counters and in a log.

use Rattle.std.specs.Prelude.{List, [], ◌∷◌}
use Rattle.gate_metrics.specs.declared.counters.Counted.TheVariants as things
use Rattle.gate_metrics.specs.declared.counters.Counters.{Counters}
use Rattle.gate_metrics.specs.Counting.{counted_at}
use Rattle.gate_events.specs.Log.{LogValue}
use Rattle.peer_gateway.specs.Gate.{BegunAt}

-- each is one at its face
unfoldable pub begun_counted : List BegunAt → Counters → Counters
begun_counted [] c = c
begun_counted (begun ∷ more) c =
    begun_counted more (counted_at begun.face (things.Begun 1) c)

abbrev pub with_begun : List BegunAt → LogValue → LogValue
with_begun begun log = record log { counters = begun_counted begun log.counters }
