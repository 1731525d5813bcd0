use Rattle.std.proofs.Common.{ap, ◌∙◌}
use Rattle.gate_cases.specs.Faces.{fits_at}
use Rattle.peer_cases.proofs.WireLemmas.{fits-raised}
use Rattle.peer_gateway.proofs.staying.raised_full.Goals as goal

pub wire_octets-requires-clause-fits : goal.wire_octets-requires-clause-fits
wire_octets-requires-clause-fits c =
    ap (fits_at c.args.face) c.in_ok-full.ensures.exact ∙ (fits-raised c.args.face c.args.stay c.args.full ∙ c.requires.fits)
