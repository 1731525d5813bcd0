-- Names of what is told that have texts: those that a bundle's octets say.

use Rattle.std.specs.Prelude.{◌≡◌, true, List, IfSome}
use Rattle.std.specs.List.{All}
use Rattle.endpoint.specs.declared.name.Endpoint.{Endpoint}
use Rattle.endpoint.specs.declared.name.Endpoint.TheVariants.{Null, Ipn, Dtn}
use Rattle.endpoint.specs.Endpoints.{is_ssp}
use Rattle.gate_log.specs.declared.subject.Subject.{Subject}
use Rattle.peer_gateway.specs.Gate.{Told, FaceTold, told_engine, told_forgotten, told_green, told_began, told_bundle, told_case, told_left, told_reported, told_unreported, told_end}

-- an endpoint that has a text, whose numbers are those of the code: below 2^64
abbrev pub HasText : Endpoint → Type 0
HasText Null = Unit {0}
HasText (Ipn node service) = Unit {0}
HasText (Dtn ssp) = is_ssp ssp ≡ true

abbrev pub HasTexts : Subject → Type 0
HasTexts s = HasText s.destination × HasText s.source

-- the names of a bundle that is told have texts
abbrev pub IsNamedTold : Told → Type 0
IsNamedTold (told_engine note) = Unit {0}
IsNamedTold (told_forgotten runs) = Unit {0}
IsNamedTold (told_green green) = Unit {0}
IsNamedTold (told_began pieces octets session) = Unit {0}
IsNamedTold (told_bundle subject) = IfSome subject HasTexts
IsNamedTold (told_case index session case pieces first) = Unit {0}
IsNamedTold (told_left index session left) = Unit {0}
IsNamedTold (told_reported index session report) = Unit {0}
IsNamedTold (told_unreported index session) = Unit {0}
IsNamedTold (told_end index session end) = Unit {0}

abbrev pub IsNamedAt : FaceTold → Type 0
IsNamedAt t = IsNamedTold t.told

abbrev pub AllNamed : List FaceTold → Type 0
AllNamed told = All IsNamedAt told
