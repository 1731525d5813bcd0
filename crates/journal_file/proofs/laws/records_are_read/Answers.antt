use Rattle.journal_file.proofs.SpellingLemmas.{records-closed}
use Rattle.journal_file.proofs.laws.records_are_read.Goals as goal

pub returns : goal.returns
returns c = records-closed
