use Rattle.std.proofs.Common.{List, ap, ◌∙◌}
use Rattle.spans.specs.declared.range.Run.{Run}
use Rattle.spans.specs.Chunks.{joined}
use Rattle.spans.proofs.Kept.{runs_of-kept}
use Rattle.spans.proofs.covered.Spans.runs.Goals as goal

pub returns : goal.returns
returns c =
    c.over.ensures
    ∙ (ap (λ (xs : List (List Run)). joined xs) c.deref.ensures.value
    ∙ runs_of-kept c.self.inside.limit c.self.inside.chunks.items c.args.self.now (record { kept = c.self.invariant; view = c.self.view_is }))
