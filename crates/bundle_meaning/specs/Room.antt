-- The room that is taken for the wrap of a block of version 6 before it is written: as much as it may need, and
-- at most what a number counts.
use Rattle.std.specs.Prelude.{ℕ, ◌+◌, ◌-◌, ◌^◌, min, List, length}
use Rattle.std.specs.List.{sum_by}
use Rattle.endpoint.specs.declared.name.Endpoint.{Endpoint}
use Rattle.endpoint.specs.declared.name.Endpoint.TheVariants.{Null, Ipn, Dtn}
use Rattle.bundle_meaning.specs.declared.blocks.Block6Like.{Block6Like}

abbrev pub capped : ℕ → ℕ
capped n = min n (2 ^ 64 - 1)

-- how many octets a name has at most in a wrap: its text, and a number before it
abbrev pub most : Endpoint → ℕ
most Null = 18
most (Ipn node service) = 55
most (Dtn ssp) = capped (length ssp + 14)

abbrev pub names_room : List Endpoint → ℕ
names_room refs = capped (sum_by most refs)

-- three numbers, the names and the body
abbrev pub wrap_room : Block6Like → ℕ
wrap_room block = capped (capped (length block.body + names_room block.refs) + 30)
