use Rattle.journal_file.proofs.SpellingLemmas.{shut-reads}
use Rattle.journal_file.proofs.laws.any_closed_gate_ends.Goals as goal

pub returns : goal.returns
returns c = shut-reads
