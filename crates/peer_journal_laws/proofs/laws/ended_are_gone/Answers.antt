use Rattle.peer_journal_laws.proofs.GoneLemmas.{ended-are-gone}
use Rattle.peer_journal_laws.proofs.laws.ended_are_gone.Goals as goal

pub returns : goal.returns
returns c = ended-are-gone
