-- An endpoint whose octets are lent, seen as the endpoint.

use Rattle.std.specs.Prelude.{Option, Result, Ok, Err, option_map}
use Rattle.endpoint.specs.declared.name.Endpoint.{Endpoint}
use Rattle.endpoint.specs.declared.name.Endpoint.TheVariants.{Null, Ipn, Dtn}
use Rattle.endpoint.specs.declared.fault.EndpointFault.{EndpointFault}
use Rattle.endpoint.specs.declared.lent.Name.{Name}
use Rattle.endpoint.specs.declared.lent.Name.TheVariants as names

abbrev pub endpoint_of : Name → Endpoint
endpoint_of names.Null = Null
endpoint_of (names.Ipn node service) = Ipn node service
endpoint_of (names.Dtn ssp) = Dtn ssp.now

abbrev pub if_named : Option Name → Option Endpoint
if_named name = option_map endpoint_of name

abbrev pub seen : Result Name EndpointFault → Result Endpoint EndpointFault
seen (Ok name) = Ok (endpoint_of name)
seen (Err fault) = Err fault
