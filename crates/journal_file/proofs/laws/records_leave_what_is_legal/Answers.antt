use Rattle.journal_file.proofs.SoundLemmas.{legal-after}
use Rattle.journal_file.proofs.laws.records_leave_what_is_legal.Goals as goal

pub returns : goal.returns
returns c = legal-after
