use Rattle.std.proofs.Common.{arith, ◌∙◌, refl}
use Rattle.std.proofs.lemmas.Result.{err_from_is_err_and}
use Rattle.ltp_segment.specs.Ties.{refusal}
use Rattle.ltp_segment.proofs.ReportLemmas.{so_far-start, so_far-more, so_far-fails, so_far-end}
use Rattle.ltp_segment.proofs.reports.claims_at.Goals as goal

pub passing-init : goal.passing-init
passing-init c = record {
  after = omega arith;
  place = omega arith;
  so_far = so_far-start c.args.count c.args.most c.args.text.now c.args.at;
}

pub returns-in_err-claim-clause-exact : goal.returns-in_err-claim-clause-exact
returns-in_err-claim-clause-exact c =
    let parts = err_from_is_err_and c.from_residual.result c.from_residual.ensures.1 in
    rw (parts.1, parts.2) (so_far-fails c.args.count c.passing.counter c.args.most c.passing.end c.args.text.now c.passing.after c.args.at
    (refusal c.in_err-claim.field-0.0) (omega arith) c.passing.invariant.so_far c.in_err-claim.ensures.exact)

pub passing-preserved : goal.passing-preserved
passing-preserved c = record {
  after = omega (arith, c.in_ok-claim.ensures.within.behind);
  place = c.in_ok-claim.ensures.within.within;
  so_far = so_far-more c.args.count c.passing.counter c.args.most c.passing.end c.args.text.now c.passing.after c.args.at
      c.in_ok-claim.claim c.in_ok-claim.next (omega arith) c.passing.invariant.so_far c.in_ok-claim.ensures.exact;
}

pub returns-clause-exact : goal.returns-clause-exact
returns-clause-exact c =
    so_far-end c.args.count c.passing.counter c.args.most c.passing.end c.args.text.now c.passing.after c.args.at
    (omega arith) c.passing.invariant.so_far
    ∙ rw (c.new.ensures.rest, c.new.ensures.count, c.split_at.ensures.back) refl
