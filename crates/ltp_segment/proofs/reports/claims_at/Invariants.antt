use Rattle.std.proofs.Common.{◌≤◌, length}
use Rattle.ltp_segment.proofs.ReportLemmas.{SoFar}
use Rattle.ltp_segment.proofs.reports.claims_at.Given as goal

abbrev pub invariant-passing : goal.invariant-passing
invariant-passing l = record {
  after : l.at ≤ l.after;
  place : l.after ≤ length l.text;
  so_far : SoFar l.count l.counter l.most l.end l.text l.after l.at;
}
