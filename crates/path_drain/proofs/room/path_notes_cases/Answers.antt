use Rattle.path_drain.proofs.CaseNotes.{path-notes}
use Rattle.path_drain.proofs.room.path_notes_cases.Goals as goal

pub returns : goal.returns
returns c = path-notes
