use Rattle.std.proofs.Common.{◌∙◌, sym}
use Rattle.cells.specs.Cells.{whole_part}
use Rattle.cells.proofs.FilledLemmas.{whole-body, none_of}
use Rattle.cells.proofs.cells.Cells.whole_part.Goals as goal

pub returns-then-not-is_whole : goal.returns-then-not-is_whole
returns-then-not-is_whole c = none_of (whole_part c.args.self.now c.args.length) (sym c.is_whole.ensures ∙ c.if-not-is_whole.true)

pub returns : goal.returns
returns c =
    whole-body _ c.args.self.now c.args.length
    (rw c.self.view_is at c.in_ok-in_order.ensures.size) (rw c.self.view_is at c.in_ok-in_order.ensures.places)
    (sym c.is_whole.ensures ∙ c.if-not-is_whole.false)
