use Rattle.peer_half.proofs.NumberLemmas.{given-is-reserved}
use Rattle.peer_half.proofs.laws.given_is_reserved.Goals as goal

pub returns : goal.returns
returns c = given-is-reserved c.numbers_are_reserved.ensures
