use Rattle.std.proofs.Common.{sym, ◌∙◌}
use Rattle.bundle6.proofs.NumberingLemmas.{lent-unnumbered}
use Rattle.bundle6.proofs.numbering.are_numbered.Goals as goal

pub returns-then-not-is_numbered : goal.returns-then-not-is_numbered
returns-then-not-is_numbered c =
    sym (lent-unnumbered c.args.endpoints.now c.loop-endpoint.endpoint-index _ c.loop-endpoint-test.true
    (sym c.is_numbered.ensures ∙ c.if-not-is_numbered.true))
