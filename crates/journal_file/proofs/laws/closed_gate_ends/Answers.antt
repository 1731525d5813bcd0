use Rattle.journal_file.proofs.SpellingLemmas.{closes-reads}
use Rattle.journal_file.proofs.laws.closed_gate_ends.Goals as goal

pub returns : goal.returns
returns c = closes-reads
