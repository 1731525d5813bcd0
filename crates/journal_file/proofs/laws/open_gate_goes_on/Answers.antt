use Rattle.journal_file.proofs.SpellingLemmas.{gate-opened}
use Rattle.journal_file.proofs.laws.open_gate_goes_on.Goals as goal

pub returns : goal.returns
returns c = gate-opened
