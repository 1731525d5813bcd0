use Rattle.std.proofs.Common.{ap, ◌∙◌}
use Rattle.translate.specs.View6.{fits6}
use Rattle.translate.proofs.BackLaws.{fits-own6}
use Rattle.peer_gateway.proofs.staying.raised6.Goals as goal

pub raised_full-requires-clause-fits : goal.raised_full-requires-clause-fits
raised_full-requires-clause-fits c =
    let reads = rw c.in-Ok.is at c.in_ok-full.ensures.exact in
    ap fits6 reads.1 ∙ fits-own6 c.args.bundle.now c.requires.legal reads.0
