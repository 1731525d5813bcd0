use Rattle.std.proofs.Common.{List, subst, sym, ◌∙◌}
use Rattle.std.proofs.lemmas.Bool.{eq-eqb}
use Rattle.spans.specs.declared.range.Run.{Run}
use Rattle.spans.specs.Chunks.{joined}
use Rattle.spans.specs.Runs.{HasAll}
use Rattle.spans.proofs.Places.{all_covered-empty}
use Rattle.spans.proofs.Kept.{all_covered-kept}
use Rattle.spans.proofs.covered.Spans.covers.Goals as goal

pub returns-then-from-to : goal.returns-then-from-to
returns-then-from-to c = eq-eqb c.args.from c.args.to c.if-from-to.true ∙ sym (all_covered-empty c.args.from c.args.to c.args.self.now c.if-from-to.true)

pub returns-else-from-to : goal.returns-else-from-to
returns-else-from-to c =
    let is = c.deref.ensures.value in
    all_covered-kept c.self.inside.limit c.args.from c.args.to c.self.inside.chunks.items c.args.self.now c.covers.result
    (record { kept = c.self.invariant; view = c.self.view_is }) c.requires.within
    (λ h. subst (λ (xs : List (List Run)). HasAll c.args.from c.args.to (joined xs)) is (c.covers.ensures.0 h))
    (λ h. c.covers.ensures.1 (subst (λ (xs : List (List Run)). HasAll c.args.from c.args.to (joined xs)) (sym is) h))
