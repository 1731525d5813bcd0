use Rattle.peer_records.proofs.HalfLemmas.{numbers-are-reserved}
use Rattle.peer_records.proofs.laws.numbers_are_reserved.Goals as goal

pub returns : goal.returns
returns c = numbers-are-reserved
