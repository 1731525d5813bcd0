use Rattle.std.proofs.Common.{◌<◌, ◌∙◌, sym, ap, arith, drop, length, get_or, ◌+◌}
use Rattle.std.proofs.lemmas.List.{drop_more, length-set}
use Rattle.ltp_session.specs.Cells.{cell, octet_in}
use Rattle.ltp_session.specs.RedPart.{or_else}
use Rattle.ltp_audit.proofs.PageLemmas.{lays-one}
use Rattle.ltp_audit.proofs.page.Page.with.Goals as goal

pub laying-preserved : goal.laying-preserved
laying-preserved c = (
  omega (arith, c.laying.invariant.0),
  length-set c.laying.cells c.laying.at c.first_of.result ∙ c.laying.invariant.1,
  λ k.
      let low : c.laying.at < length c.laying.cells = omega (arith, c.laying.invariant.0, c.laying.invariant.1, c.laying-test.true, c.requires) in
      rw c.first_of.ensures
      (lays-one c.laying.cells c.laying.at (get_or c.args.body.now c.laying.octet-index 0)
      (drop (c.laying.octet-index + 1) c.args.body.now) k low
      ∙ (ap (λ rest. or_else (cell c.laying.cells k) (octet_in c.laying.at rest k))
      (sym (drop_more c.args.body.now c.laying.octet-index 0 c.laying-test.true))
      ∙ c.laying.invariant.2 k)),
)
