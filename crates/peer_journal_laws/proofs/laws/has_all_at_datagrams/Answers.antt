use Rattle.peer_journal_laws.proofs.StopLemmas.{has-all-at-datagrams}
use Rattle.peer_journal_laws.proofs.laws.has_all_at_datagrams.Goals as goal

pub returns : goal.returns
returns c =
    has-all-at-datagrams c.pieces_are_pending.ensures c.report_is_marked.ensures c.mark_stays.ensures c.only_over_is_cleared.ensures c.numbers_are_reserved.ensures
