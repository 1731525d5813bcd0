use Rattle.journal_file.proofs.SoundLemmas.{legal-sound}
use Rattle.journal_file.proofs.laws.what_is_legal_is_sound.Goals as goal

pub returns : goal.returns
returns c = legal-sound
