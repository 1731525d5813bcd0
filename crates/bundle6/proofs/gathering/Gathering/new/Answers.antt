use Rattle.bundle6.proofs.PlacesLemmas.{shows-new}
use Rattle.bundle6.proofs.gathering.Gathering.new.Goals as goal

pub returns : goal.returns
returns c = shows-new _ c.new.ensures.items c.new-2.ensures.empty
