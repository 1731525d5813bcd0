use Rattle.std.proofs.Common.{◌∙◌}
use Rattle.fragments.proofs.HasAllLemmas.{has_all-same}
use Rattle.fragments.proofs.join.Join.has_all.Goals as goal

pub returns : goal.returns
returns c =
    c.covers.ensures
    ∙ has_all-same c.places.result.now c.args.self.now.cells c.args.offset c.args.octets.now c.places.ensures c.requires
