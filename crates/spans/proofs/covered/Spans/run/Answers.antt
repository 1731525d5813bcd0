use Rattle.std.proofs.Common.{List, ap, ◌∙◌}
use Rattle.std.specs.List.{slice_get}
use Rattle.spans.specs.declared.range.Run.{Run}
use Rattle.spans.specs.Chunks.{joined}
use Rattle.spans.proofs.Kept.{runs_of-kept}
use Rattle.spans.proofs.covered.Spans.run.Goals as goal

pub returns : goal.returns
returns c =
    c.run.ensures
    ∙ (ap (λ (xs : List (List Run)). slice_get (joined xs) c.args.i) c.deref.ensures.value
    ∙ ap (λ (xs : List Run). slice_get xs c.args.i) (runs_of-kept c.self.inside.limit c.self.inside.chunks.items c.args.self.now (record { kept = c.self.invariant; view = c.self.view_is })))
