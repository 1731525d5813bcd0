use Rattle.std.proofs.Common.{ap, ◌∙◌, replicate}
use Rattle.std.specs.Int.{w16, to_be_bytes}
use Rattle.bundle7.proofs.CheckLemmas.{check-parts}
use Rattle.bundle7.proofs.check.sixteen.Goals as goal

pub returns : goal.returns
returns c =
    c.to_be_bytes.ensures
    ∙ ap (to_be_bytes w16) (check-parts 0x8408 0xFFFF c.args.block.now (replicate 2 0) c.new.result c.update.result c.update-2.result c.finish.result
    c.new.ensures c.update.ensures c.update-2.ensures c.finish.ensures)
