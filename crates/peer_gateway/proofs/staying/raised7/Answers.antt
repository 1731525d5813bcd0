use Rattle.std.proofs.Common.{ap, ◌∙◌}
use Rattle.translate.specs.View7.{fits7}
use Rattle.translate.proofs.BackLaws.{fits-own7}
use Rattle.peer_gateway.proofs.staying.raised7.Goals as goal

pub raised_full-requires-clause-fits : goal.raised_full-requires-clause-fits
raised_full-requires-clause-fits c =
    let reads = rw c.in-Ok.is at c.in_ok-full.ensures.exact in
    ap fits7 reads.1 ∙ fits-own7 c.args.bundle.now c.requires.legal reads.0
