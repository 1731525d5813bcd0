-- A report of the code, seen as a value.

use Rattle.ltp_segment.specs.Values.{ReportValue}
use Rattle.ltp_receiver.specs.declared.report.Report.TheInside.{Inside}

-- it speaks of the octets from the first one on
abbrev pub report_value : Inside → ReportValue
report_value report = record {
  serial = report.serial;
  checkpoint = report.checkpoint;
  upper = report.upper;
  lower = 0;
  claims = report.claims.items;
}
