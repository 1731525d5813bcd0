use Rattle.std.proofs.Common.{ap, ◌∙◌, replicate}
use Rattle.std.specs.Int.{w32, to_be_bytes}
use Rattle.bundle7.proofs.CheckLemmas.{check-parts}
use Rattle.bundle7.proofs.check.thirty_two.Goals as goal

pub returns : goal.returns
returns c =
    c.to_be_bytes.ensures
    ∙ ap (to_be_bytes w32) (check-parts 0x82F63B78 0xFFFFFFFF c.args.block.now (replicate 4 0) c.new.result c.update.result c.update-2.result c.finish.result
    c.new.ensures c.update.ensures c.update-2.ensures c.finish.ensures)
