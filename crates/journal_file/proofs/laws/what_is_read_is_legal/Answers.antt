use Rattle.journal_file.proofs.SoundLemmas.{reads-legal}
use Rattle.journal_file.proofs.laws.what_is_read_is_legal.Goals as goal

pub returns : goal.returns
returns c = reads-legal
