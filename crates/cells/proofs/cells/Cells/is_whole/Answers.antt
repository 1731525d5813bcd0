use Rattle.std.proofs.Common.{◌∙◌, sym}
use Rattle.cells.proofs.FilledLemmas.{is_whole-same}
use Rattle.cells.proofs.cells.Cells.is_whole.Goals as goal

pub returns-then-eq : goal.returns-then-eq
returns-then-eq c =
    let same = is_whole-same c.self.inside.filled c.self.inside.log c.reach-reach.result c.args.length c.self.invariant c.reach-reach.ensures in
    let test = sym c.eq.ensures ∙ c.if-eq.true in
    rw c.is_whole.ensures (rw (test, c.self.view_is) at same)
