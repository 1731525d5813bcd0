use Rattle.peer_journal_laws.proofs.MarkLemmas.{marks-are-kept}
use Rattle.peer_journal_laws.proofs.laws.marks_are_kept.Goals as goal

pub returns : goal.returns
returns c = marks-are-kept c.report_is_marked.ensures c.mark_stays.ensures c.only_over_is_cleared.ensures
