use Rattle.std.proofs.Common.{ap, ◌∙◌, replicate}
use Rattle.std.specs.Int.{w32, to_be_bytes}
use Rattle.bundle7.proofs.SumLemmas.{check-more}
use Rattle.bundle7.proofs.check.Sum.thirty_two.Goals as goal

pub returns : goal.returns
returns c =
    c.to_be_bytes.ensures
    ∙ ap (to_be_bytes w32) (check-more 0x82F63B78 0xFFFFFFFF c.args.text.now (replicate 4 0) c.args.self.from c.args.self.to c.args.to
    c.args.self.long c.update.result c.update-2.result c.finish.result c.requires.sums.order c.requires.later
    (c.requires.sums.thirty_two c.requires.zero c.requires.one) c.update.ensures c.update-2.ensures c.finish.ensures)
