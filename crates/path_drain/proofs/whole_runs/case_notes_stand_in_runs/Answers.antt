use Rattle.path_drain.proofs.RunLemmas.{notes-stand}
use Rattle.path_drain.proofs.whole_runs.case_notes_stand_in_runs.Goals as goal

pub returns : goal.returns
returns c = notes-stand
