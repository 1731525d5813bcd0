-- What is wanted at a key of each kind, and the first of two refusals.

use Rattle.std.specs.Prelude.{Option, Some, None}
use Rattle.gate_config.specs.declared.keys.Kind.{Kind}
use Rattle.gate_config.specs.declared.keys.Kind.TheVariants as kinds
use Rattle.gate_config.specs.declared.fault.Wanted.{Wanted}
use Rattle.gate_config.specs.declared.fault.Wanted.TheVariants as wants
use Rattle.gate_config.specs.declared.fault.Refusal.{Refusal}

abbrev pub wanted_of : Kind → Wanted
wanted_of kinds.Table = wants.Table
wanted_of kinds.Endpoint = wants.Endpoint
wanted_of kinds.Address = wants.Address
wanted_of kinds.Path = wants.Path
wanted_of (kinds.Whole low high) = wants.Whole low high
wanted_of kinds.Accept = wants.Accept
wanted_of kinds.Age = wants.Age
wanted_of kinds.ForeignBlocks = wants.ForeignBlocks
wanted_of kinds.Contacts = wants.Tables
wanted_of kinds.Moment = wants.Moment

-- the first refusal, if there is one, and else the later one
abbrev pub first_of : Option Refusal → Option Refusal → Option Refusal
first_of (Some refusal) later = Some refusal
first_of None later = later
