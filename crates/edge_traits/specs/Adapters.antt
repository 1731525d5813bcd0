-- What stands below an adapter over std.
use Rattle.std.specs.Prelude.{ℕ, ◌-◌, ◌/◌, ◌^◌, min, List, Option}
use Rattle.edge_traits.specs.declared.sink.Writing.{Writing}

-- what the writer below a sink holds, where it tells it
abbrev pub writer_holds : {W : Type 0} → (W → Option (List ℕ)) → Writing W → Option (List ℕ)
writer_holds contents sink = contents sink.writer

-- what a clock shows where the system's shows so many nanoseconds since 1970: the milliseconds since
-- 2000, which began 946,684,800,000 of them later, from 0 up to the greatest moment of a clock
abbrev pub moment_of : ℕ → ℕ
moment_of nanos = min (nanos / 1000000 - 946684800000) (2 ^ 62 - 1)
