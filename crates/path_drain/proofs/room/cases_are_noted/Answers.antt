use Rattle.path_drain.proofs.CaseNotes.{cases-noted}
use Rattle.path_drain.proofs.room.cases_are_noted.Goals as goal

pub returns : goal.returns
returns c = cases-noted
