use Rattle.std.proofs.Common.{◌+◌, ◌-◌, ◌/◌, arith}
use Rattle.journal_file.proofs.SlotLemmas.{rising-below-at, rising-from}
use Rattle.journal_file.proofs.slots.slot_of.Goals as goal

pub halving-preserved-then-slots-middle : goal.halving-preserved-then-slots-middle
halving-preserved-then-slots-middle c =
    let middle = c.halving.from + (c.halving.to - c.halving.from) / 2 in
    record {
      order = omega (arith, c.halving-test.true);
      within = c.halving.invariant.within;
      below = rising-below-at c.args.id c.args.slots.now middle _ c.requires (omega (arith, c.halving-test.true, c.halving.invariant.within)) c.if-slots-middle.true;
      above = c.halving.invariant.above;
    }

pub halving-preserved : goal.halving-preserved
halving-preserved c =
    let middle = c.halving.from + (c.halving.to - c.halving.from) / 2 in record {
      order = omega arith;
      within = omega (arith, c.halving-test.true, c.halving.invariant.within);
      below = c.halving.invariant.below;
      above = rising-from c.args.id c.args.slots.now middle _ c.requires (omega (arith, c.halving-test.true, c.halving.invariant.within)) c.if-slots-middle.false;
    }
