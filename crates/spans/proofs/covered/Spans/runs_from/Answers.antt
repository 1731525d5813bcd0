use Rattle.std.proofs.Common.{leb, filter, List, ap, ◌∙◌}
use Rattle.spans.specs.declared.range.Run.{Run}
use Rattle.spans.specs.Chunks.{joined}
use Rattle.spans.specs.Places.{runs_reaching}
use Rattle.spans.proofs.Kept.{runs_of-kept}
use Rattle.spans.proofs.covered.Spans.runs_from.Goals as goal

pub returns : goal.returns
unfolding runs_reaching
returns c =
    c.runs_from.ensures
    ∙ (ap (λ (xs : List (List Run)). filter (λ r. leb c.args.place r.to) (joined xs)) c.deref.ensures.value
    ∙ ap (λ (xs : List Run). filter (λ r. leb c.args.place r.to) xs) (runs_of-kept c.self.inside.limit c.self.inside.chunks.items c.args.self.now (record { kept = c.self.invariant; view = c.self.view_is })))
