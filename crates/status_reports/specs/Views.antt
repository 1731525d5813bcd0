-- What code lends out of a body, seen as the values that the tables give.

use Rattle.std.specs.Prelude.{Result, Ok, Err}
use Rattle.endpoint.specs.declared.name.Endpoint.{Endpoint}
use Rattle.endpoint.specs.declared.name.Endpoint.TheVariants as endpoints
use Rattle.status_reports.specs.declared.fault.AdminFault.{AdminFault}
use Rattle.status_reports.specs.declared.lent.LentEndpoint.{LentEndpoint}
use Rattle.status_reports.specs.declared.lent.LentEndpoint.TheVariants.{Null, Ipn, Dtn}
use Rattle.status_reports.specs.declared.report6.Report6.{Report6}
use Rattle.status_reports.specs.declared.report6.LentReport6.{LentReport6}
use Rattle.status_reports.specs.declared.report7.Report7.{Report7}
use Rattle.status_reports.specs.declared.report7.LentReport7.{LentReport7}

abbrev pub endpoint_of : LentEndpoint → Endpoint
endpoint_of Null = endpoints.Null
endpoint_of (Ipn node service) = endpoints.Ipn node service
endpoint_of (Dtn ssp) = endpoints.Dtn ssp.now

abbrev pub report6_lent : LentReport6 → Report6
report6_lent lent = record {
  status = lent.status;
  reason = lent.reason;
  fragment = lent.fragment;
  times = lent.times;
  seconds = lent.seconds;
  sequence = lent.sequence;
  source = endpoint_of lent.source;
}

abbrev pub report7_lent : LentReport7 → Report7
report7_lent lent = record {
  stamps = lent.stamps;
  reason = lent.reason;
  source = endpoint_of lent.source;
  millis = lent.millis;
  sequence = lent.sequence;
  fragment = lent.fragment;
}

-- an answer whose value is lent, seen as the answer
abbrev pub seen : {X A : Type 0} → (X → A) → Result X AdminFault → Result A AdminFault
seen view (Ok lent) = Ok (view lent)
seen view (Err fault) = Err fault
