use Rattle.journal_file.proofs.BelowLemmas.{anew-below}
use Rattle.journal_file.proofs.laws.new_file_is_below.Goals as goal

pub returns : goal.returns
returns c = anew-below
