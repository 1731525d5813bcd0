use Rattle.journal_file.proofs.LengthLemmas.{entries-append}
use Rattle.journal_file.proofs.laws.entries_add_up.Goals as goal

pub returns : goal.returns
returns c = entries-append
