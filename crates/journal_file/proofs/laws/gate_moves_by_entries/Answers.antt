use Rattle.journal_file.proofs.LengthLemmas.{behind-length}
use Rattle.journal_file.proofs.laws.gate_moves_by_entries.Goals as goal

pub returns : goal.returns
returns c = behind-length
