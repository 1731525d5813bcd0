-- The octets up to the place are summed too.
use Rattle.std.proofs.Common.{refl}
use Rattle.bundle7.proofs.SumLemmas.{sums-short, sums-long}
use Rattle.bundle7.proofs.check.Sum.up_to.Goals as goal

pub returns-then-crc-eq1-clause-sums : goal.returns-then-crc-eq1-clause-sums
returns-then-crc-eq1-clause-sums c =
    sums-short c.args.text.now c.args.self _ c.requires.sums c.if-crc-eq1.true refl refl c.requires.later c.requires.within c.update.ensures

pub returns-else-crc-eq1-clause-sums : goal.returns-else-crc-eq1-clause-sums
returns-else-crc-eq1-clause-sums c =
    sums-long c.args.text.now c.args.self _ c.requires.sums c.if-crc-eq1.false refl refl c.requires.later c.requires.within
    c.update-else-crc-eq1.ensures
