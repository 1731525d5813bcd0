use Rattle.journal_file.proofs.AnewLemmas.{anew-closes}
use Rattle.journal_file.proofs.laws.new_file_says_the_same.Goals as goal

pub returns : goal.returns
returns c = anew-closes
