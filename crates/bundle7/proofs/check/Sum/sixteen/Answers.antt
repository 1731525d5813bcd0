use Rattle.std.proofs.Common.{ap, ◌∙◌, replicate}
use Rattle.std.specs.Int.{w16, to_be_bytes}
use Rattle.bundle7.proofs.SumLemmas.{check-more}
use Rattle.bundle7.proofs.check.Sum.sixteen.Goals as goal

pub returns : goal.returns
returns c =
    c.to_be_bytes.ensures
    ∙ ap (to_be_bytes w16) (check-more 0x8408 0xFFFF c.args.text.now (replicate 2 0) c.args.self.from c.args.self.to c.args.to
    c.args.self.short c.update.result c.update-2.result c.finish.result c.requires.sums.order c.requires.later
    (c.requires.sums.sixteen c.requires.crc) c.update.ensures c.update-2.ensures c.finish.ensures)
