use Rattle.journal_file.proofs.SoundLemmas.{reads-sound}
use Rattle.journal_file.proofs.laws.what_is_read_is_sound.Goals as goal

pub returns : goal.returns
returns c = reads-sound
