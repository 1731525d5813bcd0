use Rattle.std.proofs.Common.{List, length, ap, ◌∙◌}
use Rattle.spans.specs.declared.range.Run.{Run}
use Rattle.spans.specs.Chunks.{joined}
use Rattle.spans.specs.Kept.{places_from}
use Rattle.spans.proofs.Places.{places_from-none, length-uncovered}
use Rattle.spans.proofs.covered.Spans.new.Goals as goal

pub returns-clause-uncovered : goal.returns-clause-uncovered
returns-clause-uncovered c =
    ap (λ (xs : List (List Run)). places_from 0 c.args.limit (joined xs)) c.new.ensures.items ∙ places_from-none c.args.limit

pub returns-clause-limit : goal.returns-clause-limit
returns-clause-limit c =
    ap length (ap (λ (xs : List (List Run)). places_from 0 c.args.limit (joined xs)) c.new.ensures.items ∙ places_from-none c.args.limit) ∙ length-uncovered c.args.limit
