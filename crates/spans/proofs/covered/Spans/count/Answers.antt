use Rattle.std.proofs.Common.{◌<◌, ◌^◌, List, length, ltb, ap, subst, sym, ◌∙◌}
use Rattle.std.specs.List.{count_by}
use Rattle.spans.specs.declared.range.Run.{Run}
use Rattle.spans.specs.Chunks.{joined}
use Rattle.spans.proofs.Kept.{length-kept_runs, runs_below-kept}
use Rattle.spans.proofs.covered.Spans.count.Goals as goal

pub count-requires-clause-fits : goal.count-requires-clause-fits
count-requires-clause-fits c =
    subst (λ (xs : List (List Run)). length (joined xs) < 2 ^ 64) (sym c.deref.ensures.value) (length-kept_runs c.self.inside.limit c.self.inside.chunks.items c.self.invariant)

pub returns : goal.returns
returns c =
    c.count.ensures
    ∙ (ap (λ (xs : List (List Run)). count_by (λ r. ltb r.from c.args.to) (joined xs)) c.deref.ensures.value
    ∙ runs_below-kept c.self.inside.limit c.args.to c.self.inside.chunks.items c.args.self.now (record { kept = c.self.invariant; view = c.self.view_is }))
