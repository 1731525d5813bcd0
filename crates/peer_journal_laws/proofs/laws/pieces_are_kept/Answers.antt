use Rattle.peer_journal_laws.proofs.PieceLemmas.{earlier-are-kept, pieces-are-kept}
use Rattle.peer_journal_laws.proofs.laws.pieces_are_kept.Goals as goal

pub returns-clause-added : goal.returns-clause-added
returns-clause-added c = pieces-are-kept c.pieces_are_pending.ensures

pub returns-clause-earlier : goal.returns-clause-earlier
returns-clause-earlier c = earlier-are-kept
