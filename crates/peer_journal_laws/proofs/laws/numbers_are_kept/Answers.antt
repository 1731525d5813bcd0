use Rattle.peer_journal_laws.proofs.NumberLemmas.{numbers-are-kept}
use Rattle.peer_journal_laws.proofs.laws.numbers_are_kept.Goals as goal

pub returns : goal.returns
returns c = numbers-are-kept c.numbers_are_reserved.ensures
