use Rattle.std.proofs.Common.{sym, ◌∙◌, refl}
use Rattle.gate_config.proofs.DocumentLemmas.{item_count-items_view}
use Rattle.gate_config.proofs.values.are_contacts.Goals as goal

pub returns-then-is_count : goal.returns-then-is_count
returns-then-is_count c =
    let few = sym c.is_count.ensures ∙ c.if-is_count.true in
    rw (item_count-items_view c.args.values.now, few, c.all_tables.ensures) refl

pub returns-else-is_count : goal.returns-else-is_count
returns-else-is_count c =
    let few = sym c.is_count.ensures ∙ c.if-is_count.false in
    c.if-is_count.false ∙ rw (item_count-items_view c.args.values.now, few) refl
