-- A command's answer as what it settles.
use Rattle.std.specs.Prelude.{Some}
use Rattle.std.specs.String.{string_bytes}
use Rattle.edge_traits.specs.declared.answer.Answer.{Answer}
use Rattle.edge_traits.specs.Settled.{Settled}

abbrev pub answered : Answer → Settled
answered a = record { text = string_bytes a.text; ends = Some a.status }
