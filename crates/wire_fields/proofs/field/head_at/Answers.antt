-- The octets of a head that was read are there.
use Rattle.std.proofs.Common.{rules, ◌≤◌, length, arith}
use Rattle.wire_fields.proofs.KindLemmas.{head-within}
use Rattle.wire_fields.proofs.field.head_at.Goals as goal
use Rattle.wire_fields.proofs.field.head_at.Goals.{In-Ok}

within : (c : In-Ok) → c.in-Ok.count ≤ length c.split_at.result.1.now
within c =
    head-within c.args.text.now c.split_at.result.1.now c.args.at c.args.kind c.in-Ok.value c.in-Ok.count
    (λ i. omega (arith, c.type_inv.text i)) c.split_at.ensures.back c.in-Ok.ensures

pub overflow_add-result : goal.overflow_add-result
overflow_add-result c = let there = within c in search rules

pub returns-in-Ok-clause-within : goal.returns-in-Ok-clause-within
returns-in-Ok-clause-within c = let there = within c in search rules
