use Rattle.std.proofs.Common.{◌≡◌, ◌+◌, List, length, arith, rules, ap, subst, sym, ◌∙◌}
use Rattle.spans.specs.declared.range.Run.{Run}
use Rattle.spans.specs.Chunks.{IsAhead, from_there}
use Rattle.spans.proofs.Iterating.{from_there-next_chunk}
use Rattle.spans.proofs.runs.RunsIterator.next.Goals as goal

pub returns-clause-steps : goal.returns-clause-steps
returns-clause-steps c =
    let is = c.in_ok-first.ensures.cases.0 in
    let ahead = subst (λ (xs : List (List Run)). IsAhead xs c.self.inside.at) is c.self.invariant in
    sym c.self.view_is
    ∙ from_there-next_chunk c.self.inside.chunks.now c.in_ok-first.others.now c.in_ok-first.first.now c.self.inside.at c.run-run.result
    is ahead.0 (omega arith) c.run-run.ensures.run

pub returns-clause-goes : goal.returns-clause-goes
returns-clause-goes c =
    let is = c.in_ok-first.ensures.cases.0 in
    let ahead = subst (λ (xs : List (List Run)). IsAhead xs c.self.inside.at) is c.self.invariant in
    let steps = sym c.self.view_is
    ∙ from_there-next_chunk c.self.inside.chunks.now c.in_ok-first.others.now c.in_ok-first.first.now c.self.inside.at c.run-run.result
    is ahead.0 (omega arith) c.run-run.ensures.run in
    let shorter : length c.args.self.now ≡ length (from_there c.in_ok-first.others.now 0 0) + 1 = omega (arith, ap (λ (xs : List Run). length xs) steps) in
    search rules
