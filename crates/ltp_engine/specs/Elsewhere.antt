-- Closed numbers that are kept outside an engine.

use Rattle.std.specs.Prelude.{ℕ, ◌-◌, Bool, true, false, List, [], ◌∷◌, ◌++◌}
use Rattle.std.specs.List.{flat_map, range_with_len}
use Rattle.spans.specs.declared.range.Run.{Run}
use Rattle.spans.specs.Places.{runs_of}
use Rattle.ltp_session.specs.Table.{without}
use Rattle.ltp_session.specs.Engine.{untouched}
use Rattle.ltp_engine.specs.declared.closed.TheConstants.{LAST}
use Rattle.ltp_engine.specs.Closed.{ClosedValue, none_closed}
use Rattle.ltp_engine.specs.Values.{InboundValue}

-- a session is kept no more, and its number isn't closed by that
abbrev pub released : ℕ → InboundValue → InboundValue
released n i =
    record i { receivers = without n i.receivers; touched = untouched n i.touched }

-- no number is closed any more
abbrev pub reopened : InboundValue → InboundValue
reopened i = record i { closed = none_closed }

-- the numbers of a run, in ascending order
abbrev pub numbers_in : Run → List ℕ
numbers_in r = range_with_len r.from (r.to - r.from)

abbrev pub last_number : Bool → List ℕ
last_number false = []
last_number true = LAST ∷ []

-- the closed numbers, in ascending order
unfoldable pub closed_numbers : ClosedValue → List ℕ
closed_numbers c = flat_map numbers_in (runs_of c.places) ++ last_number c.last
