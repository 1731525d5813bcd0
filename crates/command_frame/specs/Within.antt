-- The limit on the size of an input.
use Rattle.std.specs.Prelude.{ℕ, Option, None, Some, nat_lt, length, take, if◌then◌else◌}
use Rattle.edge_traits.specs.declared.status.Status.{Status}
use Rattle.edge_traits.specs.declared.status.Status.TheVariants as statuses
use Rattle.edge_traits.specs.Settled.{goes_on, Settled}
use Rattle.command_frame.specs.Task.{Settling}

-- how a run ends that passes a limit, unless its end is settled before
abbrev pub end_or_limit : Option Status → Option Status
end_or_limit None = Some statuses.Limit
end_or_limit (Some status) = Some status

abbrev pub or_limit : Settled → Settled
or_limit settled = record { text = settled.text; ends = end_or_limit settled.ends }

-- what octets settle of a command that looks at no more than so many: of more, the first so many
-- settle what they do while the input goes on, and the run ends with the limit unless they settle
-- an end
unfoldable pub within : ℕ → Settling → Settling
within most settles ends octets =
    if nat_lt most (length octets) then or_limit (settles goes_on (take most octets)) else settles ends octets
