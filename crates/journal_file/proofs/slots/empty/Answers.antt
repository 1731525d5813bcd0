use Rattle.std.proofs.Common.{ap}
use Rattle.journal_file.specs.declared.slots.Slot.{Slot}
use Rattle.journal_file.proofs.SlotLemmas.{set-below, set-rising}
use Rattle.journal_file.proofs.slots.empty.Goals as goal

pub returns-in-Some-clause-rising : goal.returns-in-Some-clause-rising
returns-in-Some-clause-rising c =
    set-rising c.args.slots.now.items c.in-Some.at c.index_mut.result.now _ (ap (λ (s : Slot). s.id) c.index_mut.ensures.value) c.requires

pub returns-in-Some-clause-bound : goal.returns-in-Some-clause-bound
returns-in-Some-clause-bound c n below =
    set-below n c.args.slots.now.items c.in-Some.at c.index_mut.result.now _ (ap (λ (s : Slot). s.id) c.index_mut.ensures.value) below
