-- The name of a gateway, as words have it.
use Rattle.std.specs.Prelude.{ℕ, List, Option, None, Some}
use Rattle.endpoint.specs.declared.name.Endpoint.{Endpoint}
use Rattle.endpoint.specs.declared.name.Endpoint.TheVariants.{Null}
use Rattle.replay_script.specs.Events.{gate_of}

-- the endpoint that is named, where one is: a gateway is never the null endpoint
abbrev pub or_null : Option Endpoint → Endpoint
or_null None = Null
or_null (Some gate) = gate

abbrev pub gate_named : List ℕ → Endpoint
gate_named text = or_null (gate_of text)
