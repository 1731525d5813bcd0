-- One piece more.
use Rattle.std.proofs.Common.{◌∙◌, sym}
use Rattle.fragments.proofs.CuttingLemmas.{pieces-none, pieces-push}
use Rattle.fragments.proofs.cutting.pieces.Goals as goal

pub cutting-init : goal.cutting-init
cutting-init c = c.new-fulls.ensures.items ∙ sym (pieces-none c.args.full.now c.args.size 0)

pub cutting-preserved : goal.cutting-preserved
cutting-preserved c =
    rw (c.in_ok-push.ensures.items, c.cutting.invariant, c.in_ok-piece.ensures)
    (sym (pieces-push c.args.full.now c.args.size c.cutting.i))
