use Rattle.std.proofs.Common.{List, take, arith, ap, subst, sym, ◌∙◌}
use Rattle.spans.specs.declared.range.Run.{Run}
use Rattle.spans.specs.Chunks.{AreFilled}
use Rattle.spans.proofs.Absorbing.{AreFilled-cut, take-cut}
use Rattle.spans.proofs.merge.absorb.Goals as goal

pub returns-clause-filled : goal.returns-clause-filled
returns-clause-filled c =
    subst (λ (xs : List (List Run)). AreFilled xs) (sym c.cut.ensures)
    (AreFilled-cut c.args.from c.whole_chunks-whole.result.0 c.absorb_front-growth.new.chunks.items c.absorb_front-growth.ensures.filled)

pub returns-clause-kept : goal.returns-clause-kept
returns-clause-kept c =
    let now = c.absorb_front-growth.new.chunks.items in
    let whole = c.whole_chunks-whole.result.0 in
    ap (take c.args.from) c.cut.ensures
    ∙ take-cut c.args.from whole c.args.chunks.now.items now c.whole_chunks-whole.ensures.met.low (omega arith) c.absorb_front-growth.ensures.kept
