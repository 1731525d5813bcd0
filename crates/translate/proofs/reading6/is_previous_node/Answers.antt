use Rattle.std.proofs.Common.{arith}
use Rattle.translate.proofs.BodyLemmas.{previous-whole}
use Rattle.translate.proofs.reading6.is_previous_node.Goals as goal

pub returns : goal.returns
returns c =
    rw c.is_refused.ensures (previous-whole c.previous_of-found.result c.args.body.now (λ i. omega (arith, c.type_inv.body i))
    c.previous_of-found.ensures.found c.previous_of-found.ensures.refused c.previous_of-found.ensures.memory)
