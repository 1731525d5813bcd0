use Rattle.journal_file.proofs.LengthLemmas.{file-length}
use Rattle.journal_file.proofs.laws.gate_is_last.Goals as goal

pub returns : goal.returns
returns c = file-length
