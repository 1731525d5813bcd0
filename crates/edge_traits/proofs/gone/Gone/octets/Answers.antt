use Rattle.std.proofs.Common.{rules}
use Rattle.edge_traits.proofs.DatagramsLemmas.{told-octets}
use Rattle.edge_traits.proofs.gone.Gone.octets.Goals as goal

pub returns : goal.returns
returns c =
    rw (← c.self.view_is, c.as_slice.ensures.value)
    (told-octets c.self.inside.lost c.self.inside.lengths.items c.self.inside.octets.items (search rules))
