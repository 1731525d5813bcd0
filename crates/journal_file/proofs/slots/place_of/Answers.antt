use Rattle.std.proofs.Common.{sym, arith}
use Rattle.journal_file.proofs.SlotLemmas.{found-slot, not-found, none-past}
use Rattle.journal_file.proofs.slots.place_of.Goals as goal

pub returns-then-at-slots-clause-none : goal.returns-then-at-slots-clause-none
returns-then-at-slots-clause-none c =
    none-past c.args.id c.args.slots.now c.slot_of-at.result c.slot_of-at.ensures.below (omega (arith, c.if-at-slots.true))

pub returns-then-is_at-clause-found : goal.returns-then-is_at-clause-found
returns-then-is_at-clause-found c =
    found-slot c.args.id c.args.slots.now c.slot_of-at.result _ c.slot_of-at.ensures.below (omega (arith, c.slot_of-at.ensures.within, c.if-at-slots.false)) (sym c.if-is_at.ensures)

pub returns-clause-none : goal.returns-clause-none
returns-clause-none c =
    not-found c.args.id c.args.slots.now c.slot_of-at.result _ c.requires c.slot_of-at.ensures.below c.slot_of-at.ensures.above (omega (arith, c.slot_of-at.ensures.within, c.if-at-slots.false)) (sym c.if-is_at.ensures)
