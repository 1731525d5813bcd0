use Rattle.std.proofs.Common.{◌∙◌}
use Rattle.endpoint.proofs.ReadingLemmas.{names_group-more}
use Rattle.endpoint.proofs.text.names_group.Goals as goal

pub loop-at-preserved : goal.loop-at-preserved
loop-at-preserved c =
    names_group-more c.args.ssp.now c.as_slice.result.now c.loop-at.at c.starts_with.result c.loop-at-test.true
    c.as_slice.ensures c.starts_with.ensures.value c.if-starts_with.false
    ∙ c.loop-at.invariant
