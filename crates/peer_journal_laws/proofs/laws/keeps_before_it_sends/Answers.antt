use Rattle.peer_journal_laws.proofs.KeepsLemmas.{keeps-before-it-sends}
use Rattle.peer_journal_laws.proofs.laws.keeps_before_it_sends.Goals as goal

pub returns : goal.returns
returns c = keeps-before-it-sends
